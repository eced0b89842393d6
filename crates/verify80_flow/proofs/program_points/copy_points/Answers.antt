use Rattle.std.proofs.Common.{◌≡◌, ◌∙◌, ◌∷◌, ◌++◌, [], ap, arith}
use Rattle.verify80_flow.specs.ProgramPoints.{program_point}
use Rattle.verify80_flow.proofs.ProgramPointLemmas.{one_more}
use Rattle.verify80_flow.proofs.VisitLemmas.{some_at}
use Rattle.verify80_flow.proofs.program_points.copy_points.Goals as goal

pub loop-i-preserved : goal.loop-i-preserved
loop-i-preserved c =
    let points = c.args.table.now.known.points in
    let i = c.loop-i.i in
    let pt = some_at points i (omega (arith, c.len-i-end.ensures.count, c.loop-i-test.true)) in
    let same : c.program_point.result ≡ program_point pt.0 = rw pt.1 at c.program_point.ensures in
    one_more points i pt.0 c.loop-i.points.items c.push.new.self.items pt.1 c.loop-i.invariant
    (c.in_ok-push.ensures.items ∙ ap (λ x. c.loop-i.points.items ++ x ∷ []) same)
