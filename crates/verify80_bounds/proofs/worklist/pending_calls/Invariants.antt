use Rattle.std.proofs.Common.{take}
use Rattle.verify80_bounds.specs.Sums.{AreLeft}
use Rattle.verify80_bounds.proofs.worklist.pending_calls.Given as goal

abbrev pub invariant-loop-call : goal.invariant-loop-call
invariant-loop-call l = AreLeft (take l.call-index l.calls) l.counts l.pending.items
