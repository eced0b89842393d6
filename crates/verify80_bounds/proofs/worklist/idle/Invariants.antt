use Rattle.std.proofs.Common.{map}
use Rattle.verify80_bounds.specs.Sums.{AreIdle}
use Rattle.verify80_bounds.proofs.worklist.idle.Given as goal

abbrev pub invariant-loop-slot : goal.invariant-loop-slot
invariant-loop-slot l = AreIdle (map (λ v. v.items) l.callers) l.counts l.slot l.slots.items
