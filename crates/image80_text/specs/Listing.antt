-- The listing of an image's code, a line for each instruction: its address, its bytes and its text, as an assembler's listing
-- has them. (Texts: 8080 Assembly Language Programming Manual; the columns are this project's.)
use Rattle.std.specs.Prelude.{ℕ, zero, suc, ◌+◌, ◌-◌, ◌*◌, ◌%◌, List, [], ◌∷◌, ◌++◌, Option, None, Some, length, take, drop, slice_index, nat_le, codes, if◌then◌else◌}
use Rattle.std.specs.List.{flat_map}
use Rattle.decode80.specs.declared.instr.Instr.{Instr}
use Rattle.decode80.specs.Decoded.{decoded}
use Rattle.decode80.specs.Text.{text}
use Rattle.image80.specs.declared.range.Range.{Range}
use Rattle.image80.specs.Image.{Located, memory_of}
use Rattle.text80.specs.Digits.{byte_text, word_text}

-- three bytes from an address on; 0000 follows FFFF
abbrev pub bytes_from : List ℕ → ℕ → List ℕ
bytes_from memory at = slice_index memory at ∷ slice_index memory ((at + 1) % 65536) ∷ slice_index memory ((at + 2) % 65536) ∷ []

-- an instruction and its length, if it is no longer than what is left of the range
abbrev pub fitting : ℕ → Option (Instr × ℕ) → Option (Instr × ℕ)
fitting left (Some (i, n)) = if nat_le n left then Some (i, n) else None
fitting left None = None

-- the instruction that three bytes begin with, and its length, if a given number of bytes are left of the range
abbrev pub instruction_of : List ℕ → ℕ → Option (Instr × ℕ)
instruction_of bytes left = fitting left (decoded (slice_index bytes 0) (slice_index bytes 1) (slice_index bytes 2))

-- how many bytes stand in a line: those of its instruction, or one
abbrev pub line_length : Option (Instr × ℕ) → ℕ
line_length (Some (i, n)) = n
line_length None = 1

abbrev pub line_text : Option (Instr × ℕ) → List ℕ
line_text (Some (i, n)) = text i
line_text None = codes "??"

-- the columns before the text: the address, and the digits of the bytes, filled to six places
abbrev pub columns : ℕ → List ℕ → List ℕ
columns at bytes = word_text at ++ 32 ∷ (flat_map byte_text bytes ++ drop (2 * length bytes) (codes "      ")) ++ 32 ∷ []

-- a line
abbrev pub list_line : ℕ → List ℕ → Option (Instr × ℕ) → List ℕ
list_line at bytes found = columns at (take (line_length found) bytes) ++ (line_text found ++ 10 ∷ [])

-- the lines of the `left` bytes from an address on, of which the first `inside` belong to the line before
unfoldable pub lines_from : List ℕ → (at inside left : ℕ) → List ℕ
lines_from memory at inside zero = []
lines_from memory at zero (suc left) =
    let bytes = bytes_from memory at in let found = instruction_of bytes (suc left) in
    list_line at bytes found ++ lines_from memory ((at + 1) % 65536) (line_length found - 1) left
lines_from memory at (suc inside) (suc left) = lines_from memory ((at + 1) % 65536) inside left

-- the lines of a range
abbrev pub range_lines : List ℕ → Range → List ℕ
range_lines memory range = lines_from memory range.first 0 range.length

-- the lines of each range of code, by address
abbrev pub listing_of : Located → List ℕ
listing_of image = flat_map (range_lines (memory_of image.chunks)) image.regions.code
