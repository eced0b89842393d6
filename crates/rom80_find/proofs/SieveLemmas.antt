-- The addresses that are left.
use Rattle.std.specs.Prelude.{◌≡◌, ℕ, ◌+◌, ◌*◌, ◌/◌, ◌%◌, ◌<◌, ◌≤◌, ◌==◌, ◌&&◌, ◌||◌, not, Bool, true, false, List, length, bit_and, slice_index_or}
use Rattle.std.specs.List.{list_all}
use Rattle.std.proofs.Common.{refl, sym, ◌∙◌, ap, arith, get_or, take, get_or-set_other, get_or-set_same, set, inl, inr}
use Rattle.std.proofs.lemmas.Bool.{true≢false, cases_lt, eqb-true, eq-eqb, ne_eqb}
use Rattle.std.proofs.lemmas.Nat.Bits.{bit_at-zero, bit_at_ones}
use Rattle.std.specs.Int.{bit_at}
use Rattle.std.proofs.lemmas.List.Folds.{list_all_more}
use Rattle.rom80_find.specs.Marks.{bit_in, has_bit}
use Rattle.rom80_find.proofs.BitLemmas.{both_have, same_default}
use Rattle.rom80_find.proofs.SolveLemmas.{iff_bool, all_first}

-- one more byte
pub sieved_more : {A : Type 0} (p : A → Bool) (code : List A) (i : ℕ) (d : A) (first old new : Bool) → i < length code
    → old ≡ (first && list_all p (take i code)) → new ≡ (old && p (get_or code i d)) → new ≡ (first && list_all p (take (i + 1) code))
sieved_more p code i d first old new lt before step =
    step ∙ (ap (λ (t : Bool). t && p (get_or code i d)) before ∙ (and_again first (list_all p (take i code)) (p (get_or code i d)) ∙ ap (λ (t : Bool). first && t) (sym (list_all_more p code i d lt))))
  where
    and_again : (x y z : Bool) → ((x && y) && z) ≡ (x && (y && z))
    and_again true y z = refl
    and_again false y z = refl

-- none left
pub sieved_out : {A : Type 0} (p : A → Bool) (code : List A) (k : ℕ) (first new : Bool)
    → new ≡ (first && list_all p (take k code)) → new ≡ false → new ≡ (first && list_all p code)
sieved_out p code k true new h none = none ∙ iff_bool false (list_all p code) (λ e. elim (true≢false (sym e)) [ ])
    (λ e. elim (true≢false (sym (all_first p code k e) ∙ (sym h ∙ none))) [ ])
sieved_out p code k false new h none = none

-- all of them
pub all_set : (alive : List ℕ) (count : ℕ) → length alive ≡ count → ((k : ℕ) → slice_index_or alive k 18446744073709551615 ≡ 18446744073709551615)
    → (a : ℕ) → a < 64 * count → bit_in alive a ≡ true
all_set alive count whole each a lt =
    ap (λ (n : ℕ). has_bit n (a % 64)) (same_default alive (a / 64) 0 18446744073709551615 (omega (arith, whole, lt)) ∙ each (a / 64))
    ∙ eq-eqb (bit_at 18446744073709551615 (a % 64)) 1 (bit_at_ones 64 (a % 64) (omega arith))

-- one more word of the addresses that are kept
module _ (first row alive : List ℕ) (offset w bits : ℕ) (lt : w < 1024) (whole : length alive ≡ 1024)
    (are : (i : ℕ) → i < 64 → has_bit bits i ≡ bit_in row (64 * w + offset + i))
    (rest : (v : ℕ) → w ≤ v → slice_index_or alive v 0 ≡ slice_index_or first v 0) where
  abbrev left : ℕ
  left = bit_and (slice_index_or alive w 0) bits

  here : (a : ℕ) → a / 64 ≡ w → bit_in (set alive w left) a ≡ has_bit left (a % 64)
  here a e = ap (λ (n : ℕ). has_bit n (a % 64)) (ap (λ (k : ℕ). slice_index_or (set alive w left) k 0) e ∙ get_or-set_same alive w left 0 (omega (arith, lt, whole)))

  before : (a : ℕ) → a < 64 * w → bit_in (set alive w left) a ≡ bit_in alive a
  before a below = ap (λ (n : ℕ). has_bit n (a % 64)) (get_or-set_other alive w (a / 64) left 0 (omega arith))

  pub done_more : ((a : ℕ) → a < 64 * w → bit_in alive a ≡ (bit_in first a && bit_in row (a + offset)))
      → (a : ℕ) → a < 64 * (w + 1) → bit_in (set alive w left) a ≡ (bit_in first a && bit_in row (a + offset))
  done_more done a la = elim (cases_lt a (64 * w)) [
    | inl below ↦ before a below ∙ done a below
    | inr from ↦
        let word : a / 64 ≡ w = omega arith in
        let at : 64 * w + offset + a % 64 ≡ a + offset = omega arith in
        here a word ∙ (both_have (slice_index_or alive w 0) bits (a % 64)
        ∙ (ap (λ (t : Bool). t && has_bit bits (a % 64)) (ap (λ (n : ℕ). has_bit n (a % 64)) (rest w (omega arith) ∙ ap (λ (k : ℕ). slice_index_or first k 0) (sym word)))
        ∙ ap (λ (t : Bool). bit_in first a && t) (are (a % 64) (omega arith) ∙ ap (λ (n : ℕ). bit_in row n) at)))
  ]

  pub rest_more : (v : ℕ) → w + 1 ≤ v → slice_index_or (set alive w left) v 0 ≡ slice_index_or first v 0
  rest_more v le = get_or-set_other alive w v left 0 (omega arith) ∙ rest v (omega arith)

  pub none_more : (any : Bool) → (any ≡ false → (a : ℕ) → a < 64 * w → bit_in alive a ≡ false) → (any || not (left == 0)) ≡ false
      → (a : ℕ) → a < 64 * (w + 1) → bit_in (set alive w left) a ≡ false
  none_more any none e a la = elim (cases_lt a (64 * w)) [
    | inl below ↦ before a below ∙ none (first_false any (not (left == 0)) e) a below
    | inr from ↦
        let word : a / 64 ≡ w = omega arith in
        here a word ∙ (ap (λ (n : ℕ). has_bit n (a % 64)) (eqb-true left 0 (not_false (left == 0) (second_false any (not (left == 0)) e))) ∙ no_bit (a % 64))
  ]
    where
      first_false : (x y : Bool) → (x || y) ≡ false → x ≡ false
      first_false true y h = h
      first_false false y h = refl

      second_false : (x y : Bool) → (x || y) ≡ false → y ≡ false
      second_false true y h = elim (true≢false h) [ ]
      second_false false y h = h

      not_false : (x : Bool) → not x ≡ false → x ≡ true
      not_false true h = refl
      not_false false h = elim (true≢false h) [ ]

      no_bit : (i : ℕ) → has_bit 0 i ≡ false
      no_bit i = ne_eqb (bit_at 0 i) 1 (λ q. omega (arith, bit_at-zero i, q))
