use Rattle.std.proofs.Common.{◌≡◌, drop}
use Rattle.place80.specs.PlaceFault.{pairs}
use Rattle.place80.specs.PlaceFault.{first_sharing}
use Rattle.place80.proofs.overlap.first_of_segments.Given as goal

-- the first pair among the segments that are left is the first of all
abbrev pub invariant-loop-index : goal.invariant-loop-index
invariant-loop-index l = first_sharing (pairs (drop l.index l.segments)) ≡ first_sharing (pairs l.segments)
