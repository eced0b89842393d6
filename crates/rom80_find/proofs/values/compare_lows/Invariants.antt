-- the addresses so far
use Rattle.std.proofs.Common.{◌≡◌, ℕ, ◌+◌, ◌<◌, ◌≤◌, ◌%◌, ◌==◌, ◌&&◌, length, slice_index_or}
use Rattle.rom80_find.proofs.values.compare_lows.Given as goal

abbrev pub invariant-loop-at : goal.invariant-loop-at
invariant-loop-at l = record {
  whole : length l.wrong ≡ 4096;
  done : (k : ℕ) → k < l.at → (slice_index_or l.wrong k 0 == 0)
      ≡ (slice_index_or l.fn.wrong k 0 == 0 && (slice_index_or l.lows k 0 + l.addend % 256) % 256 == slice_index_or l.found k 0);
  rest : (k : ℕ) → l.at ≤ k → slice_index_or l.wrong k 0 ≡ slice_index_or l.fn.wrong k 0;
}
