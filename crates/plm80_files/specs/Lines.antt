-- What is often wrong with a line of the program's texts, which is then said in words.
-- (The texts of regions and of inputs are this project's: lines that end in LF alone, without comments.)
use Rattle.std.specs.Prelude.{ℕ, zero, suc, ◌-◌, ◌%◌, ◌==◌, Option, Some, None, is_some, slice_get, codes, Bool, false, ◌&&◌, ◌||◌, nat_lt, not, if◌then◌else◌, List, [], ◌∷◌, length, take}
use Rattle.std.specs.{List.list_all, List.list_any, List.ends_with, List.slice_split, Char.is_ascii_hexdigit, Char.is_ascii_lowercase}
use Rattle.plm80_files.specs.declared.line_words.LineFlaw.TheVariants.{NotAscii, CarriageReturn, ControlZ, NoLineFeed, Blank, Tab, Blanks, Empty, Comment, OddDigits, LowerCase}
use Rattle.plm80_files.specs.{FileKinds.starts, declared.line_words.LineFlaw.LineFlaw}

-- what stands between line feeds, or between one and an end of the text, by its index
abbrev pub part_at : (text : List ℕ) → (index : ℕ) → Option (List ℕ)
part_at text index = slice_get (slice_split (λ byte. byte == 10) text) index

-- such a part is a line if a line feed follows it or if it has bytes
abbrev pub line_from : Option (List ℕ) → (is_ended : Bool) → Option (List ℕ × Bool)
line_from None is_ended = None
line_from (Some bytes) is_ended = if length bytes == 0 && not is_ended then None else Some (bytes, is_ended)

-- the line of a number, counted from 1, and whether a line feed ends it
abbrev pub line_at : (text : List ℕ) → (number : ℕ) → Option (List ℕ × Bool)
line_at text zero = None
line_at text (suc index) = line_from (part_at text index) (is_some (part_at text (suc index)))

abbrev pub ends_in : (byte : ℕ) → List ℕ → Bool
ends_in byte line = ends_with (λ one other. one == other) line (byte ∷ [])

-- without a carriage return at its end
abbrev pub without_return : List ℕ → List ℕ
without_return line = if ends_in 13 line then take (length line - 1) line else line

-- a blank or a tab
abbrev pub ends_in_blank : List ℕ → Bool
ends_in_blank line = ends_in 32 (without_return line) || ends_in 9 (without_return line)

-- nothing stands between two blanks, or between one and an end of the line
abbrev pub has_empty_word : List ℕ → Bool
has_empty_word line = list_any (λ word. length word == 0) (slice_split (λ byte. byte == 32) line)

-- a blank at its beginning, or two in a row, and none at its end
abbrev pub has_blanks : List ℕ → Bool
has_blanks line = not (length line == 0) && not (ends_in_blank line) && has_empty_word line

abbrev pub has_comment : List ℕ → Bool
has_comment line = list_any (λ byte. byte == 59) line

-- a byte that is none of ASCII's, as UTF-16 and byte order marks have them
abbrev pub has_other_bytes : List ℕ → Bool
has_other_bytes line = list_any (λ byte. byte == 0 || nat_lt 0x7E byte) line

abbrev pub has_lower_case : List ℕ → Bool
has_lower_case line = list_any is_ascii_lowercase line

-- a word of hexadecimal digits, an odd number of them
abbrev pub is_odd_number : List ℕ → Bool
is_odd_number word = length word % 2 == 1 && list_all is_ascii_hexdigit word

-- one of the words between blanks is such a number
abbrev pub has_odd_number : List ℕ → Bool
has_odd_number line = list_any is_odd_number (slice_split (λ byte. byte == 32) line)

-- whether a line has a flaw
abbrev pub has_flaw : LineFlaw → (line : List ℕ) → (is_ended : Bool) → Bool
has_flaw NotAscii line is_ended = has_other_bytes line
has_flaw CarriageReturn line is_ended = ends_in 13 line
has_flaw ControlZ line is_ended = list_any (λ byte. byte == 0x1A) line
has_flaw NoLineFeed line is_ended = not is_ended
has_flaw Blank line is_ended = ends_in_blank line
has_flaw Tab line is_ended = list_any (λ byte. byte == 9) line
has_flaw Blanks line is_ended = not (has_comment line) && has_blanks line
has_flaw Empty line is_ended = length line == 0
has_flaw Comment line is_ended = has_comment line
has_flaw OddDigits line is_ended = not (has_comment line) && has_odd_number (without_return line)
has_flaw LowerCase line is_ended = not (has_comment line) && has_lower_case line

-- a line, if there is one, has one of these flaws
abbrev pub is_flawed_line : List LineFlaw → Option (List ℕ × Bool) → Bool
is_flawed_line flaws None = false
is_flawed_line flaws (Some line) = list_any (λ flaw. has_flaw flaw line.0 line.1) flaws

abbrev pub is_flawed : (text : List ℕ) → (number : ℕ) → List LineFlaw → Bool
is_flawed text number flaws = is_flawed_line flaws (line_at text number)

-- the line of this number is a CASE line in a text of version 1
abbrev pub is_case_line : (text : List ℕ) → Option (List ℕ × Bool) → Bool
is_case_line text None = false
is_case_line text (Some line) = starts (codes "REGIONS 1\n") text && starts (codes "CASE ") line.0

abbrev pub needs_version_2 : (text : List ℕ) → (number : ℕ) → Bool
needs_version_2 text number = is_case_line text (line_at text number)
