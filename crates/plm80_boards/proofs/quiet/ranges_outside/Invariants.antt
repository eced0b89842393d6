use Rattle.plm80_boards.specs.Quiet.{AreWithin}
use Rattle.plm80_boards.proofs.quiet.ranges_outside.Given as goal

-- the parts of the ranges so far
abbrev pub invariant-loop-range : goal.invariant-loop-range
invariant-loop-range l = AreWithin l.outside.items l.ranges
