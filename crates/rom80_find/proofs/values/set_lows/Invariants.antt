-- the bytes so far
use Rattle.std.proofs.Common.{◌≡◌, ℕ, ◌<◌, ◌%◌, length, slice_index_or}
use Rattle.rom80_find.specs.Blocks.{less}
use Rattle.rom80_find.proofs.values.set_lows.Given as goal

abbrev pub invariant-loop-at : goal.invariant-loop-at
invariant-loop-at l = record {
  whole : length l.lows ≡ 4096;
  done : (k : ℕ) → k < l.at → slice_index_or l.lows k 0 ≡ less (slice_index_or l.found k 0) (l.addend % 256);
}
