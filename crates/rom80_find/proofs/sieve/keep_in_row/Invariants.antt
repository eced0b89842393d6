-- the words so far
use Rattle.std.proofs.Common.{◌≡◌, ℕ, ◌<◌, ◌≤◌, ◌+◌, ◌*◌, ◌&&◌, false, length, slice_index_or}
use Rattle.rom80_find.specs.Marks.{bit_in}
use Rattle.rom80_find.proofs.sieve.keep_in_row.Given as goal

abbrev pub invariant-loop-word : goal.invariant-loop-word
invariant-loop-word l = record {
  whole : length l.alive ≡ 1024;
  done : (a : ℕ) → a < 64 * l.word → bit_in l.alive a ≡ (bit_in l.fn.alive a && bit_in l.row (a + l.offset));
  rest : (w : ℕ) → l.word ≤ w → slice_index_or l.alive w 0 ≡ slice_index_or l.fn.alive w 0;
  none : l.any ≡ false → (a : ℕ) → a < 64 * l.word → bit_in l.alive a ≡ false;
}
