-- The words that the value of a target may be, given bytes of a dump.
use Rattle.std.specs.Prelude.{ℕ, ◌+◌, ◌-◌, ◌%◌, ◌==◌, Bool, true, nat_le}
use Rattle.rom80_pattern.specs.declared.code_byte.Half.{Half}
use Rattle.rom80_pattern.specs.CodeBytes.{half_of}
use Rattle.rom80_find.specs.declared.candidates.Candidates.{Candidates}
use Rattle.rom80_find.specs.declared.candidates.Candidates.TheVariants.{Any, Low, Window}

-- the word is `first` or one of the `more` words that follow it; 0000 follows FFFF
abbrev pub is_in_window : (first more word : ℕ) → Bool
is_in_window first more word = nat_le ((word + 65536 - first % 65536) % 65536) more

-- the word is one of the candidates
abbrev pub is_candidate : Candidates → ℕ → Bool
is_candidate Any word = true
is_candidate (Low low) word = word % 256 == low % 256
is_candidate (Window first more) word = is_in_window first more word

-- the half of the word plus the addend is this byte
abbrev pub is_half : Half → (addend byte word : ℕ) → Bool
is_half half addend byte word = byte == half_of half ((word + addend) % 65536)
