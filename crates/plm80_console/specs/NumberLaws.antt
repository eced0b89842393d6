-- What follows for texts of digits: laws that hold whatever they write. (This project's own.)
use Rattle.std.specs.Prelude.{◌≢◌, ℕ, ◌<◌, ◌≤◌, List, [], ◌∷◌, length}
use Rattle.std.specs.Char.{digit_value}
use Rattle.std.specs.Str.Parse.{AllDigits}
use Rattle.std.proofs.Common.{arith, get_or, subst, suc, zero}

-- a character that is no digit is at no place of digits
pub digits_without : (sign : ℕ) → 16 ≤ digit_value sign → (digits : List ℕ) → AllDigits 16 digits → (i : ℕ) → i < length digits
    → get_or digits i 0 ≢ sign
digits_without sign is [] all i below same = omega (arith, below)
digits_without sign is (first ∷ rest) all zero below same =
    let digit : digit_value sign < 16 = subst (λ (n : ℕ). digit_value n < 16) same all.0 in
    omega (arith, is, digit)
digits_without sign is (first ∷ rest) all (suc i) below same = digits_without sign is rest all.1 i (omega (arith, below)) same
