use Rattle.std.proofs.Common.{◌+◌, ◌*◌, map, length}
use Rattle.verify80_bounds.specs.Sums.{AreSums, IsWorklist, joined}
use Rattle.verify80_bounds.proofs.bounds.settle.Given as goal

abbrev pub invariant-loop-bytes : goal.invariant-loop-bytes
invariant-loop-bytes l = AreSums l.depths l.calls l.bytes.items (joined (map (λ v. v.items) l.callers.items))
    × IsWorklist l.bytes.items (map (λ v. v.items) l.callers.items) l.counts.items l.settled.items

abbrev pub decreases-loop-bytes : goal.decreases-loop-bytes
decreases-loop-bytes l = 2 * length (joined (map (λ v. v.items) l.callers.items)) + length l.settled.items
