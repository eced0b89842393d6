-- The lines of a range, one after another. (It follows from the definition of a listing.)
use Rattle.std.specs.Prelude.{◌≡◌, ℕ, ◌+◌, ◌-◌, ◌%◌, ◌<◌, ◌≤◌, List, [], ◌++◌, Option}
use Rattle.decode80.specs.declared.instr.Instr.{Instr}
use Rattle.image80.specs.declared.range.Range.{Range}
use Rattle.image80_text.specs.Listing.{bytes_from, instruction_of, line_length, list_line, range_lines}

-- the lines of the `left` bytes from an address on: one for the instruction there, or for the byte that begins none, and then
-- those of the bytes behind it
pub data AreLines (memory : List ℕ) : (at left : ℕ) → List ℕ → Type 0 where
  no_line : (at : ℕ) → AreLines memory at 0 []
  line : (at left n : ℕ) (found : Option (Instr × ℕ)) (rest : List ℕ) → found ≡ instruction_of (bytes_from memory at) left →
      n ≡ line_length found → 0 < n → n ≤ left → AreLines memory ((at + n) % 65536) (left - n) rest →
      AreLines memory at left (list_line at (bytes_from memory at) found ++ rest)

-- the lines of a range take all of its bytes, each once
abbrev pub RangesAreListedLineByLine : Type 0
RangesAreListedLineByLine = (memory : List ℕ) (range : Range) → range.first < 65536 →
    AreLines memory range.first range.length (range_lines memory range)
