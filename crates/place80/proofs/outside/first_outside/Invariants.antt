use Rattle.std.proofs.Common.{◌≡◌, drop}
use Rattle.place80.specs.PlaceFault.{first_outside}
use Rattle.place80.proofs.outside.first_outside.Given as goal

-- the first of the segments that are left is the first of all
abbrev pub invariant-loop-placed : goal.invariant-loop-placed
invariant-loop-placed l = first_outside l.program (drop l.placed-index l.segments) ≡ first_outside l.program l.segments
