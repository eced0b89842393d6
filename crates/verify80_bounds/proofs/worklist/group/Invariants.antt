use Rattle.std.proofs.Common.{take, map}
use Rattle.verify80_bounds.specs.Sums.{AreGrouped}
use Rattle.verify80_bounds.proofs.worklist.group.Given as goal

abbrev pub invariant-loop-call : goal.invariant-loop-call
invariant-loop-call l = AreGrouped (take l.call-index l.calls) (map (λ v. v.items) l.callers.items) l.counts.items
