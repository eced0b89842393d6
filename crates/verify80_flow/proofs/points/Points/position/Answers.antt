use Rattle.std.proofs.Common.{List, sym, ◌∙◌, ap, subst}
use Rattle.verify80_flow.specs.Points.{Point, IsPointAt, IsNoPoint, StoredPoints}
use Rattle.verify80_flow.proofs.PointLemmas.{IsPointAt-number, IsNoPoint-number}
use Rattle.verify80_flow.proofs.points.Points.position.Goals as goal

pub returns-in_err-number-clause-none : goal.returns-in_err-number-clause-none
returns-in_err-number-clause-none c =
    let fields = c.self.inside in
    rw c.from_residual.ensures
    (subst (λ (points : List Point). IsNoPoint points c.args.procedure c.args.at) (ap (λ (s : StoredPoints). s.points) c.self.view_is)
    (IsNoPoint-number fields.frames fields.stored.items fields.numbers c.self.invariant c.args.procedure c.args.at (sym c.get.ensures ∙ c.in_err-number.was)))

pub returns-clause-found : goal.returns-clause-found
returns-clause-found c =
    let fields = c.self.inside in
    subst (λ (points : List Point). IsPointAt points c.args.procedure c.args.at c.in_ok-number.number) (ap (λ (s : StoredPoints). s.points) c.self.view_is)
    (IsPointAt-number fields.frames fields.stored.items fields.numbers c.self.invariant c.args.procedure c.args.at c.in_ok-number.number (sym c.get.ensures ∙ c.in_ok-number.was))
