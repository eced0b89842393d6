use Rattle.plm80_boards.specs.Quiet.{AreWithin}
use Rattle.plm80_boards.proofs.quiet.shared_ranges.Given as goal

-- the parts of the ranges so far
abbrev pub invariant-loop-range : goal.invariant-loop-range
invariant-loop-range l = record {
  own : AreWithin l.shared.items l.ranges;
  others : AreWithin l.shared.items l.others;
}
