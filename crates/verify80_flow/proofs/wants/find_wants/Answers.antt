use Rattle.std.proofs.Common.{◌≡◌, ◌<◌, ◌∙◌, ap, sym, length, arith}
use Rattle.std.proofs.lemmas.List.{get_or_read, length-set}
use Rattle.frames80.specs.Procedures.{slot_of}
use Rattle.verify80_flow.proofs.SurveyLemmas.{wants_kept, wants_raised}
use Rattle.verify80_flow.proofs.VisitLemmas.{some_at}
use Rattle.verify80_flow.proofs.wants.find_wants.Goals as goal
use Rattle.verify80_flow.proofs.wants.find_wants.Goals.{then-taken-index, else-taken-index}

pub loop-point-preserved : goal.loop-point-preserved
loop-point-preserved c =
    let points = c.args.table.now.known.points in
    let i = c.loop-point.point in
    let wants = c.loop-point.wants.items in
    let place = c.slot-place.result in
    let taken = c.taken-taken.result in
    let pt = some_at points i (omega (arith, c.len-point-end.ensures.count, c.loop-point-test.true)) in
    let procedure : pt.0.procedure ≡ c.procedure.result = rw pt.1 at c.procedure.ensures in
    let at : place ≡ slot_of pt.0.procedure = c.slot-place.ensures.is ∙ sym (ap slot_of procedure) in
    let inside : place < length wants = omega (arith, c.loop-point.invariant.1, c.slot-place.ensures.within) in
    let read = get_or_read wants place c.index.result.now inside c.index.ensures 0 in
    let is : taken ≡ pt.0.frame.taken = rw pt.1 at c.taken-taken.ensures in
    elim c.if-taken-index.branch [
      | then-taken-index w ↦
          rw w.wants-is (
            wants_raised points wants i pt.0 place taken pt.1 at inside is (omega (arith, read, w.if-taken-index.true)) c.loop-point.invariant.0,
            length-set wants place taken ∙ c.loop-point.invariant.1,
          )
      | else-taken-index w ↦
          rw w.wants-is (
            wants_kept points wants i pt.0 place taken pt.1 at is (omega (arith, read, w.if-taken-index.false)) c.loop-point.invariant.0,
            c.loop-point.invariant.1,
          )
    ]
