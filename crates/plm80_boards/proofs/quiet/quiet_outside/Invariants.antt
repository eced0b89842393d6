use Rattle.plm80_boards.specs.Quiet.{AreInRam}
use Rattle.plm80_boards.proofs.quiet.quiet_outside.Given as goal

-- what is left of the ranges so far
abbrev pub invariant-loop-write : goal.invariant-loop-write
invariant-loop-write l = AreInRam l.board l.regions l.quiet.items
