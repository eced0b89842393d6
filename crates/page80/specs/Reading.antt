-- What a page shows: its text without tags, each numeric character reference read as the byte that it stands for.
-- (HTML Living Standard, 13.2.5 Tokenization: data state, tag states, hexadecimal character references. That a byte without a character
-- stands in the private use area, from E000 on, is this project's own. So is 256, which no text has: it is shown for another character,
-- and for any other reference, as one by name or in decimal.)
use Rattle.std.specs.Prelude.{ℕ, ◌+◌, ◌-◌, ◌*◌, ◌==◌, ◌||◌, ◌&&◌, Bool, nat_lt, if◌then◌else◌, List, [], ◌∷◌, ◌++◌}

-- where a reader is: in text, in a tag, behind `&`, behind `&#`, behind `&#x` and digits of this value, or behind another reference
pub data Reading : Type 0 where
  text : Reading
  tag : Reading
  ampersand : Reading
  number : Reading
  reference : (value : ℕ) → Reading
  other : Reading

-- a byte with a character of its own: printable, or the end of a line
abbrev pub is_printable : ℕ → Bool
is_printable byte = byte == 10 || (nat_lt 31 byte && nat_lt byte 127)

-- an upper case hexadecimal digit
abbrev pub is_digit : ℕ → Bool
is_digit byte = (nat_lt 47 byte && nat_lt byte 58) || (nat_lt 64 byte && nat_lt byte 71)

abbrev pub with_digit : (value byte : ℕ) → ℕ
with_digit value byte = value * 16 + (if nat_lt byte 65 then byte - 48 else byte - 55)

-- where the reader is behind a byte
abbrev pub next : Reading → (byte : ℕ) → Reading
next text byte = if byte == 60 then tag else (if byte == 38 then ampersand else text)
next tag byte = if byte == 62 then text else tag
next ampersand byte = if byte == 35 then number else other
next number byte = if byte == 120 then reference 0 else other
next (reference value) byte = if byte == 59 then text else (if is_digit byte then reference (with_digit value byte) else other)
next other byte = other

-- the byte of a character of this number
abbrev pub byte_of : (character : ℕ) → ℕ
byte_of character =
    if is_printable character then character
    else (if nat_lt character 0xE000 || is_printable (character - 0xE000) then 256 else character - 0xE000)

-- what a byte shows
abbrev pub shows : Reading → (byte : ℕ) → List ℕ
shows text byte = if byte == 60 || byte == 38 then [] else byte_of byte ∷ []
shows (reference value) byte = if byte == 59 then byte_of value ∷ [] else []
shows _ byte = []

-- what the end of a page shows: nothing, unless a reference goes on
abbrev pub shows_at_end : Reading → List ℕ
shows_at_end text = []
shows_at_end tag = []
shows_at_end _ = 256 ∷ []

-- where the reader is behind these bytes
abbrev pub reading_after : Reading → List ℕ → Reading
reading_after reading [] = reading
reading_after reading (byte ∷ bytes) = reading_after (next reading byte) bytes

-- what they show
abbrev pub shown_from : Reading → List ℕ → List ℕ
shown_from reading [] = shows_at_end reading
shown_from reading (byte ∷ bytes) = shows reading byte ++ shown_from (next reading byte) bytes

-- what a page shows
abbrev pub shown_in : List ℕ → List ℕ
shown_in html = shown_from text html
