use Rattle.std.proofs.Common.{◌≡◌, get_or, sym, ◌∙◌, ap, subst}
use Rattle.std.specs.Prelude.{IfSome}
use Rattle.std.proofs.lemmas.Option.{same_Some}
use Rattle.frames80.specs.declared.procedure.Procedure.TheVariants.{Main}
use Rattle.frames80.specs.Lists.{read_at}
use Rattle.verify80_walks.specs.declared.point.Point.{Point}
use Rattle.verify80_walks.specs.Ways.{Lead}
use Rattle.verify80_walks.proofs.ways.route_to.Goals as goal

pub returns : goal.returns
returns g c = λ last is.
    let code = g.C.Code.code c.args.program.now in
    let points = c.args.points.now in
    let one = c.index-points-number.result in
    let read = get_or points c.args.number one in
    let at = read_at points c.args.number one c.requires.there c.index-points-number.is in
    let way = c.in_ok-way.ensures code last c.requires.reached is in
    let led = subst (λ o. IfSome o (λ calls. Lead code Main calls.items read.procedure)) c.in-Some.is c.in_ok-calls.ensures in
    let same : read ≡ last = sym c.index-points-number.is ∙ same_Some one last (sym at ∙ is) in
    record {
      first = way.first;
      rest = way.rest;
      points = way.is;
      starts = way.starts;
      way = way.way;
      calls = subst (Lead code Main c.in-Some.calls.items) (ap (λ (p : Point). p.procedure) same) led;
    }
