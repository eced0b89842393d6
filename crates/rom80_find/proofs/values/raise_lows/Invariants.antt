-- the bytes so far
use Rattle.std.proofs.Common.{◌≡◌, ℕ, ◌<◌, ◌≤◌, max, length, slice_index_or}
use Rattle.rom80_find.specs.Blocks.{low_needed}
use Rattle.rom80_find.proofs.values.raise_lows.Given as goal

abbrev pub invariant-loop-at : goal.invariant-loop-at
invariant-loop-at l = record {
  whole : length l.lows ≡ 4096;
  done : (k : ℕ) → k < l.at → slice_index_or l.lows k 0
      ≡ max (slice_index_or l.fn.lows k 0) (low_needed (slice_index_or l.highs k 0) l.addend (slice_index_or l.found k 0));
  rest : (k : ℕ) → l.at ≤ k → slice_index_or l.lows k 0 ≡ slice_index_or l.fn.lows k 0;
}
