-- the words so far
use Rattle.std.proofs.Common.{◌≡◌, ℕ, ◌+◌, ◌*◌, ◌<◌, false}
use Rattle.rom80_find.specs.Marks.{bit_in}
use Rattle.rom80_find.proofs.listing.is_any_left.Given as goal

abbrev pub invariant-loop-word : goal.invariant-loop-word
invariant-loop-word l = (k : ℕ) → k < 64 * l.word → bit_in l.alive (4096 * l.block + k) ≡ false
