-- the bytes so far
use Rattle.std.proofs.Common.{◌≡◌, ℕ, ◌<◌, length, slice_index_or}
use Rattle.rom80_find.proofs.values.clear.Given as goal

abbrev pub invariant-loop-at : goal.invariant-loop-at
invariant-loop-at l = record {
  whole : length l.bytes ≡ 4096;
  done : (k : ℕ) → k < l.at → slice_index_or l.bytes k 0 ≡ 0;
}
