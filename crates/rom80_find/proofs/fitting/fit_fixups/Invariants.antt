-- the bytes so far
use Rattle.std.proofs.Common.{◌≡◌, ℕ, ◌+◌, ◌<◌, ◌≤◌, ◌++◌, true, List, length, slice_index_or}
use Rattle.rom80_pattern.specs.declared.code_byte.CodeByte.{CodeByte}
use Rattle.rom80_find.specs.Blocks.{IsFitted}
use Rattle.rom80_find.specs.Fixups.{AreApart, AreSorted, are_there}
use Rattle.rom80_find.proofs.fitting.fit_fixups.Given as goal

abbrev pub invariant-loop : goal.invariant-loop
invariant-loop l = record {
  few : length l.rest + l.counter ≤ length l.fixups;
  sorted : AreSorted l.rest;
  done : (done : List CodeByte) × (done ++ l.rest ≡ l.fixups) × (AreApart done l.rest) × ((k : ℕ) → k < 4096
      → are_there l.dump (l.first + k) l.fixups ≡ true
      → IsFitted l.dump done (l.first + k) (slice_index_or l.fn.wrong k 0) (slice_index_or l.wrong k 0));
}
