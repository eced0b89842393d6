-- Counts from their decimal digits.
use Rattle.std.proofs.Common.{◌≡◌, ℕ, ◌<◌, ◌^◌, Bool, true, false, cond, nat_lt, ◌&&◌, None, Some, List, [], ◌∷◌, length, slice_index, refl, ap, sym, subst, ◌∙◌, arith}
use Rattle.std.specs.Prelude.{◌==◌, drop}
use Rattle.std.specs.List.{list_all}
use Rattle.std.specs.Char.{digit_value}
use Rattle.std.specs.Str.{IsUtf8}
use Rattle.std.specs.Str.Parse.{AllDigits, IsNumeral, digits_value, without_leading_plus}
use Rattle.std.proofs.lemmas.Bool.Decides.{nat_tests}
use Rattle.std.proofs.lemmas.Fmt.{IsAscii-from_digits}
use Rattle.std.proofs.lemmas.Str.{IsUtf8-from_ascii}
use Rattle.loader80_text.specs.Words.{is_count, count_spelled}

abbrev is_decimal : ℕ → Bool
is_decimal digit = nat_lt (digit_value digit) 10

below : (a b : ℕ) → nat_lt a b ≡ true → a < b
below a b h = grind (arith, nat_tests)

tests_below : (a b : ℕ) → a < b → nat_lt a b ≡ true
tests_below a b h = grind (arith, nat_tests)

first_true : (a b : Bool) → (a && b) ≡ true → a ≡ true
first_true true b h = refl
first_true false b h = h

second_true : (a b : Bool) → (a && b) ≡ true → b ≡ true
second_true true b h = h
second_true false b h = absurd (cc)

both_true : (a b : Bool) → a ≡ true → b ≡ true → (a && b) ≡ true
both_true true b one other = other
both_true false b one other = one

tests_digits : (digits : List ℕ) → AllDigits 10 digits → list_all is_decimal digits ≡ true
tests_digits [] h = refl
tests_digits (d ∷ ds) h = both_true (is_decimal d) (list_all is_decimal ds) (tests_below (digit_value d) 10 h.0) (tests_digits ds h.1)

are_digits : (digits : List ℕ) → list_all is_decimal digits ≡ true → AllDigits 10 digits
are_digits [] h = tt
are_digits (d ∷ ds) h = (
  below (digit_value d) 10 (first_true (is_decimal d) (list_all is_decimal ds) h),
  are_digits ds (second_true (is_decimal d) (list_all is_decimal ds) h),
)

-- the digits of a count
pub record IsCount (digits : List ℕ) : Type 0 where
  pub numeral : IsNumeral 10 digits
  pub some : 0 < digits_value 10 digits
  pub below : digits_value 10 digits < 2 ^ 64

count_is : (digits : List ℕ) → is_count digits ≡ true → IsCount digits
count_is digits h =
    let rest = second_true (nat_lt 0 (length digits)) _ h in
    let bounds = second_true (list_all is_decimal digits) _ rest in
    record {
      numeral = (below 0 (length digits) (first_true (nat_lt 0 (length digits)) _ h), are_digits digits (first_true (list_all is_decimal digits) _ rest));
      some = below 0 (digits_value 10 digits) (first_true (nat_lt 0 (digits_value 10 digits)) _ bounds);
      below = below (digits_value 10 digits) (2 ^ 64) (second_true (nat_lt 0 (digits_value 10 digits)) _ bounds);
    }

is_one : (digits : List ℕ) → IsCount digits → is_count digits ≡ true
is_one digits c =
    both_true (nat_lt 0 (length digits)) _ (tests_below 0 (length digits) c.numeral.0)
    (both_true (list_all is_decimal digits) _ (tests_digits digits c.numeral.1)
    (both_true (nat_lt 0 (digits_value 10 digits)) _ (tests_below 0 (digits_value 10 digits) c.some) (tests_below (digits_value 10 digits) (2 ^ 64) c.below)))

-- what is spelled
pub spells_count : (digits : List ℕ) → IsCount digits → Some (digits_value 10 digits) ≡ count_spelled digits
spells_count digits c = sym (ap (λ b. cond b (Some (digits_value 10 digits)) None) (is_one digits c))

no_count_by : (digits : List ℕ) (b : Bool) → is_count digits ≡ b → (IsCount digits → ⊥) → None ≡ count_spelled digits
no_count_by digits true e none = absurd (none (count_is digits e))
no_count_by digits false e none = sym (ap (λ b. cond b (Some (digits_value 10 digits)) None) e)

pub spells_none : (digits : List ℕ) → (IsCount digits → ⊥) → None ≡ count_spelled digits
spells_none digits none = no_count_by digits (is_count digits) refl none

-- digits are a text
pub count_is_text : (digits : List ℕ) → IsCount digits → IsUtf8 digits
count_is_text digits c = IsUtf8-from_ascii digits (IsAscii-from_digits digits c.numeral.1)

-- what std reads without a plus
no_plus : (text : List ℕ) → (slice_index text 0 ≡ 43 → ⊥) → without_leading_plus text ≡ text
no_plus text none =
    let not_plus : (slice_index text 0 == 43) ≡ false = grind (arith, nat_tests) in
    ap (λ (b : Bool). drop (cond b 1 0) text) not_plus

-- a numeral that 64 bits hold
abbrev pub IsHeld : List ℕ → Type 0
IsHeld digits = IsNumeral 10 digits × (digits_value 10 digits < 2 ^ 64)

pub parsed_count : (text : List ℕ) (count : ℕ) → (slice_index text 0 ≡ 43 → ⊥) → IsHeld (without_leading_plus text) →
    count ≡ digits_value 10 (without_leading_plus text) → 0 < count → Some count ≡ count_spelled text
parsed_count text count none held is some =
    let same : without_leading_plus text ≡ text = no_plus text none in
    let here : IsHeld text = subst IsHeld same held in
    let value : count ≡ digits_value 10 text = is ∙ ap (digits_value 10) same in
    ap Some value ∙ spells_count text (record { numeral = here.0; some = subst (λ (n : ℕ). 0 < n) value some; below = here.1 })

pub parsed_zero : (text : List ℕ) (count : ℕ) → (slice_index text 0 ≡ 43 → ⊥) →
    count ≡ digits_value 10 (without_leading_plus text) → count ≡ 0 → None ≡ count_spelled text
parsed_zero text count none is zero =
    let value : digits_value 10 text ≡ 0 = sym (ap (digits_value 10) (no_plus text none)) ∙ sym is ∙ zero in
    spells_none text (λ c. let some = c.some in absurd (omega arith))

pub parsed_none : (text : List ℕ) → (slice_index text 0 ≡ 43 → ⊥) → (IsHeld (without_leading_plus text) → ⊥) →
    None ≡ count_spelled text
parsed_none text none not_held = spells_none text (λ c. not_held (subst IsHeld (sym (no_plus text none)) (c.numeral, c.below)))
