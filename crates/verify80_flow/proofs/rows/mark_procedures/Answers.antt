use Rattle.std.proofs.Common.{◌≡◌, ◌<◌, ◌∙◌, ap, sym, true, length, arith, rules}
use Rattle.std.proofs.lemmas.List.{length-set}
use Rattle.frames80.specs.Procedures.{slot_of}
use Rattle.verify80_flow.proofs.SurveyLemmas.{mark_more, none_marked}
use Rattle.verify80_flow.proofs.VisitLemmas.{some_at}
use Rattle.verify80_flow.proofs.rows.mark_procedures.Goals as goal

pub loop-point-preserved : goal.loop-point-preserved
loop-point-preserved c =
    let points = c.args.table.now.known.points in
    let i = c.loop-point.point in
    let marks = c.loop-point.marks.items in
    let place = c.slot.result in
    let pt = some_at points i (omega (arith, c.len-point-end.ensures.count, c.loop-point-test.true)) in
    let procedure : pt.0.procedure ≡ c.procedure.result = rw pt.1 at c.procedure.ensures in
    let at : place ≡ slot_of pt.0.procedure = c.slot.ensures.is ∙ sym (ap slot_of procedure) in
    let inside : place < length marks = omega (arith, c.loop-point.invariant.1, c.slot.ensures.within) in
    (mark_more points marks i pt.0 place pt.1 at inside c.loop-point.invariant.0, length-set marks place true ∙ c.loop-point.invariant.1)

pub loop-point-init : goal.loop-point-init
loop-point-init c = (none_marked c.args.table.now.known.points _, search rules)

pub returns-clause-marked : goal.returns-clause-marked
returns-clause-marked c = record { marked = λ i point less there. c.loop-point.invariant.0.marked i point (omega (arith, less, c.len-point-end.ensures.count)) there }
