-- the bytes so far
use Rattle.std.proofs.Common.{◌≡◌, ℕ, ◌+◌, ◌<◌, ◌==◌, ◌&&◌, true, take, slice_index_or}
use Rattle.rom80_find.specs.Blocks.{word_at}
use Rattle.rom80_find.specs.Fixups.{all_fit, are_there}
use Rattle.rom80_find.proofs.fitting.fit_value.Given as goal

abbrev pub invariant-loop-byte : goal.invariant-loop-byte
invariant-loop-byte l = (k : ℕ) → k < 4096 → are_there l.dump (l.first + k) l.bytes ≡ true
    → (slice_index_or l.wrong k 0 == 0)
    ≡ (slice_index_or l.fn.wrong k 0 == 0 && all_fit l.dump (l.first + k) (take l.byte-index l.bytes) (word_at l.lows l.highs k))
