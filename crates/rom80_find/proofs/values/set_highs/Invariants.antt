-- the bytes so far
use Rattle.std.proofs.Common.{◌≡◌, ℕ, ◌<◌, length, slice_index_or}
use Rattle.rom80_find.specs.Blocks.{high_sum, less}
use Rattle.rom80_find.proofs.values.set_highs.Given as goal

abbrev pub invariant-loop-at : goal.invariant-loop-at
invariant-loop-at l = record {
  whole : length l.highs ≡ 4096;
  done : (k : ℕ) → k < l.at → slice_index_or l.highs k 0 ≡ less (slice_index_or l.found k 0) (high_sum 0 (slice_index_or l.lows k 0) l.addend);
}
