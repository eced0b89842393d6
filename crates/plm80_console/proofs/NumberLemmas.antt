-- What hexadecimal digits write at most.
use Rattle.std.proofs.Common.{ℕ, ◌<◌, ◌≤◌, ◌^◌, List, length, arith}
use Rattle.std.proofs.{Math.Nat.pow-le-pow_right, lemmas.Int.Digits.digits_value-lt}
use Rattle.std.specs.Str.Parse.{IsNumeral}
use Rattle.plm80_console.specs.NumberText.{IsByteText, IsLengthText, IsWordText, word_value}

value-lt : (most : ℕ) (digits : List ℕ) → IsNumeral 16 digits → length digits ≤ most → word_value digits < 16 ^ most
value-lt most digits numeral few =
    let below : word_value digits < 16 ^ length digits = digits_value-lt 16 digits numeral.1 in
    let more : 16 ^ length digits ≤ 16 ^ most = pow-le-pow_right (omega arith) few in
    omega (arith, below, more)

pub word_fits : (digits : List ℕ) → IsWordText digits → word_value digits < 65536
word_fits digits is = value-lt 4 digits is.0 is.1

pub length_fits : (digits : List ℕ) → IsLengthText digits → word_value digits < 1048576
length_fits digits is = value-lt 5 digits is.0 is.1

pub byte_fits : (digits : List ℕ) → IsByteText digits → word_value digits < 256
byte_fits digits is = value-lt 2 digits is.0 (omega (arith, is.1))
