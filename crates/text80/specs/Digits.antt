-- Upper case hexadecimal digits: of a number below 16, a byte, a word. (Intel 8080 Assembly Language Programming Manual: hexadecimal data.)
use Rattle.std.specs.Prelude.{ℕ, ◌/◌, ◌%◌, List, [], ◌∷◌, ◌++◌, slice_index, codes}

-- one upper case hexadecimal digit
abbrev pub digit_text : ℕ → List ℕ
digit_text n = slice_index (codes "0123456789ABCDEF") n ∷ []

abbrev pub byte_text : ℕ → List ℕ
byte_text b = digit_text (b / 16) ++ digit_text (b % 16)

abbrev pub word_text : ℕ → List ℕ
word_text w = byte_text (w / 256) ++ byte_text (w % 256)
