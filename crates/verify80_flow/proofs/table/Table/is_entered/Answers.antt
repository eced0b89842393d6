use Rattle.std.proofs.Common.{◌≡◌, ap, subst, List}
use Rattle.std.specs.Prelude.{IfSome}
use Rattle.frames80.specs.declared.procedure.Procedure.TheVariants.{Entry}
use Rattle.verify80_flow.specs.Points.{Point, IsPointAt}
use Rattle.verify80_flow.specs.Known.{KnownFrames}
use Rattle.verify80_flow.proofs.SurveyLemmas.{entered_there}
use Rattle.verify80_flow.proofs.table.Table.is_entered.Goals as goal

pub returns-clause-yes : goal.returns-clause-yes
returns-clause-yes c =
    let points : c.self.inside.points.points ≡ c.args.self.now.known.points = ap (λ (t : KnownFrames). t.known.points) c.self.view_is in
    entered_there c.args.self.now.known c.args.entry c.position.result c.is_some.result c.is_some.ensures
    (subst (λ (ps : List Point). IfSome c.position.result (λ i. IsPointAt ps (Entry c.args.entry) c.args.entry i)) points c.position.ensures.found)
