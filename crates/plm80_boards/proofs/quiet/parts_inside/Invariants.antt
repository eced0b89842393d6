use Rattle.std.specs.Prelude.{[], ◌∷◌}
use Rattle.plm80_boards.specs.Quiet.{AreWithin}
use Rattle.plm80_boards.proofs.quiet.parts_inside.Given as goal

-- the parts so far
abbrev pub invariant-loop-other : goal.invariant-loop-other
invariant-loop-other l = record {
  own : AreWithin l.parts.items (l.range ∷ []);
  others : AreWithin l.parts.items l.others;
}
