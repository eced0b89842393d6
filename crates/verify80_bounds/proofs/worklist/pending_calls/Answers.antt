use Rattle.verify80_bounds.proofs.WorklistLemmas.{left_kept, left_absorbed}
use Rattle.verify80_bounds.proofs.worklist.pending_calls.Goals as goal
use Rattle.verify80_bounds.proofs.worklist.pending_calls.Goals.{then-counts-slot-gt0+in_ok-push, else-counts-slot-gt0}

pub loop-call-preserved : goal.loop-call-preserved
loop-call-preserved c = elim c.if-counts-slot-gt0.branch [
  | then-counts-slot-gt0+in_ok-push w ↦
      rw (w.pending-is, w.in_ok-push.ensures.items)
      (left_kept c.args.calls.now c.args.counts.now c.loop-call.pending.items c.loop-call.call-index c.slot.result c.loop-call-test.true c.slot.ensures.is w.if-counts-slot-gt0.true
      c.loop-call.invariant)
  | else-counts-slot-gt0 w ↦
      rw (w.pending-is)
      (left_absorbed c.args.calls.now c.args.counts.now c.loop-call.pending.items c.loop-call.call-index c.slot.result c.loop-call-test.true c.slot.ensures.is w.if-counts-slot-gt0.false
      c.loop-call.invariant)
]
