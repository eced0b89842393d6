use Rattle.std.proofs.Common.{◌≡◌, length, take}
use Rattle.verify80_bounds.specs.Sums.{AreDepths}
use Rattle.verify80_bounds.proofs.sums.greatest_depths.Given as goal

abbrev pub invariant-loop-depth : goal.invariant-loop-depth
invariant-loop-depth l = (AreDepths (take l.depth-index l.depths) l.sums.items) × (length l.sums.items ≡ 65537)
