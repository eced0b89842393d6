-- The numbers of the program's options: hexadecimal words and decimal counts, of digits alone.
-- (Digits in either case, as the ISIS-II User's Guide has them; the limits are this project's.)
use Rattle.std.specs.Prelude.{◌≡◌, ℕ, ◌≤◌, ◌<◌, ◌^◌, List, length}
use Rattle.std.specs.Str.Parse.{IsNumeral, digits_value}

-- one to four hexadecimal digits
abbrev pub IsWordText : List ℕ → Type 0
IsWordText digits = IsNumeral 16 digits × (length digits ≤ 4)

-- the word that they write
abbrev pub word_value : List ℕ → ℕ
word_value digits = digits_value 16 digits

-- one to five hexadecimal digits, and two of them
abbrev pub IsLengthText : List ℕ → Type 0
IsLengthText digits = IsNumeral 16 digits × (length digits ≤ 5)

abbrev pub IsByteText : List ℕ → Type 0
IsByteText digits = IsNumeral 16 digits × (length digits ≡ 2)

-- decimal digits, one or more, of a number that 64 bits hold
abbrev pub IsCountText : List ℕ → Type 0
IsCountText digits = IsNumeral 10 digits × (digits_value 10 digits < 2 ^ 64)

-- the number that they write
abbrev pub count_value : List ℕ → ℕ
count_value digits = digits_value 10 digits
