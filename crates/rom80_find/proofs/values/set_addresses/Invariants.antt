-- the bytes so far
use Rattle.std.proofs.Common.{◌≡◌, ℕ, ◌+◌, ◌<◌, ◌%◌, ◌/◌, length, slice_index_or}
use Rattle.rom80_find.proofs.values.set_addresses.Given as goal

abbrev pub invariant-loop-at : goal.invariant-loop-at
invariant-loop-at l = record {
  low : length l.lows ≡ 4096;
  high : length l.highs ≡ 4096;
  lows : (k : ℕ) → k < l.at → slice_index_or l.lows k 0 ≡ (l.first + k) % 256;
  highs : (k : ℕ) → k < l.at → slice_index_or l.highs k 0 ≡ (l.first + k) / 256;
}
