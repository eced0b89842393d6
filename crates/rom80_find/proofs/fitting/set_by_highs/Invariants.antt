-- the bytes so far
use Rattle.std.proofs.Common.{◌≡◌, ℕ, ◌+◌, ◌<◌, ◌≤◌, true, take, slice_index_or}
use Rattle.std.specs.List.{AllByRecursion}
use Rattle.rom80_find.specs.Fixups.{are_there}
use Rattle.rom80_find.proofs.FitLemmas.{needed}
use Rattle.rom80_find.proofs.fitting.set_by_highs.Given as goal

abbrev pub invariant-loop-byte : goal.invariant-loop-byte
invariant-loop-byte l = record {
  enough : (k : ℕ) → k < 4096 → are_there l.dump (l.first + k) l.bytes ≡ true
      → AllByRecursion (λ b. needed l.dump (l.first + k) (slice_index_or l.highs k 0) b ≤ slice_index_or l.lows k 0) (take l.byte-index l.bytes);
  most : (k n : ℕ) → k < 4096 → are_there l.dump (l.first + k) l.bytes ≡ true
      → AllByRecursion (λ b. needed l.dump (l.first + k) (slice_index_or l.highs k 0) b ≤ n) (take l.byte-index l.bytes)
      → slice_index_or l.lows k 0 ≤ n;
}
