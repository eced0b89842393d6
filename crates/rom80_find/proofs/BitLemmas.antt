-- Bits of words, and of shifted ones.
use Rattle.std.specs.Prelude.{◌≡◌, ◌≢◌, ℕ, zero, suc, ◌+◌, ◌-◌, ◌*◌, ◌/◌, ◌%◌, ◌^◌, ◌<◌, ◌≤◌, ◌==◌, ◌&&◌, ◌||◌, min, max, Bool, true, false, List, [], ◌∷◌, length, bit_and, slice_index_or}
use Rattle.std.specs.Int.{bit_at, w64}
use Rattle.std.specs.Int.RustNames.{bit_or}
use Rattle.std.proofs.Common.{refl, sym, ◌∙◌, ap, arith, get_or, set, get_or-set_same, get_or-set_other, inl, inr}
use Rattle.std.proofs.lemmas.Bool.{cases_lt, eq-eqb, ne_eqb}
use Rattle.std.proofs.lemmas.Nat.{pow_pos, shr-shr, shr_split}
use Rattle.std.proofs.lemmas.Nat.Bits.{bit_at_and, bit_at_or, bit_at-lt, bit_at-zero, bit_at_above, bit_at_cat_low, bit_at_cat_high, bit_at_set_same, bit_at_set_other}
use Rattle.rom80_find.specs.Marks.{has_bit, bit_in}

shifted_down : (n s i : ℕ) → bit_at (n / 2 ^ s) i ≡ bit_at n (s + i)
shifted_down n s i = ap (λ (x : ℕ). x % 2) (shr-shr n s i)

cut_off : (n i : ℕ) → i < 64 → bit_at (n % 2 ^ 64) i ≡ bit_at n i
cut_off n i lt = sym (bit_at_cat_low (n / 2 ^ 64) 64 (n % 2 ^ 64) i lt) ∙ ap (λ (x : ℕ). bit_at x i) (shr_split n 64)

plus_zero : (n : ℕ) → n ≡ n + 0
plus_zero n = omega arith

shifted_up : (n k i : ℕ) → i < 64 → k ≤ i → bit_at (n * 2 ^ k % 2 ^ 64) i ≡ bit_at n (i - k)
shifted_up n k i lt le = cut_off (n * 2 ^ k) i lt ∙ (ap (λ (x : ℕ). bit_at x i) (plus_zero (n * 2 ^ k)) ∙ bit_at_cat_high n k 0 i (pow_pos k) le)

shifted_out : (n k i : ℕ) → i < 64 → i < k → bit_at (n * 2 ^ k % 2 ^ 64) i ≡ 0
shifted_out n k i lt below = cut_off (n * 2 ^ k) i lt ∙ (ap (λ (x : ℕ). bit_at x i) (plus_zero (n * 2 ^ k)) ∙ (bit_at_cat_low n k 0 i below ∙ bit_at-zero i))

doubled : (n i : ℕ) → i < 64 → 1 ≤ i → bit_at (n * 2 % 2 ^ 64) i ≡ bit_at n (i - 1)
doubled n i lt le = shifted_up n 1 i lt le

doubled_out : (n : ℕ) → bit_at (n * 2 % 2 ^ 64) 0 ≡ 0
doubled_out n = shifted_out n 1 0 (omega arith) (omega arith)

-- a word, and the one behind it, from the bit `s` on
abbrev pub joined : (a b s : ℕ) → ℕ
joined a b s = bit_or (a / 2 ^ s) (b * 2 % 2 ^ 64 * 2 ^ (63 - s) % 2 ^ 64)

max-zero : (x y : ℕ) → y ≡ 0 → max x y ≡ x
max-zero x y e = omega arith

zero-max : (x y : ℕ) → x ≡ 0 → max x y ≡ y
zero-max x y e = omega arith

pub joined_low : (a b s i : ℕ) → s < 64 → s + i < 64 → bit_at (joined a b s) i ≡ bit_at a (s + i)
joined_low a b s i ls lt =
    bit_at_or (a / 2 ^ s) (b * 2 % 2 ^ 64 * 2 ^ (63 - s) % 2 ^ 64) i
    ∙ (max-zero (bit_at (a / 2 ^ s) i) (bit_at (b * 2 % 2 ^ 64 * 2 ^ (63 - s) % 2 ^ 64) i) none ∙ shifted_down a s i)
  where
    none : bit_at (b * 2 % 2 ^ 64 * 2 ^ (63 - s) % 2 ^ 64) i ≡ 0
    none = elim (cases_lt i (63 - s)) [
      | inl below ↦ shifted_out (b * 2 % 2 ^ 64) (63 - s) i (omega arith) below
      | inr above ↦
          let first : i - (63 - s) ≡ 0 = omega arith in
          shifted_up (b * 2 % 2 ^ 64) (63 - s) i (omega arith) above
          ∙ (ap (λ (k : ℕ). bit_at (b * 2 % 2 ^ 64) k) first ∙ doubled_out b)
    ]

pub joined_high : (a b s i : ℕ) → a < 2 ^ 64 → s < 64 → i < 64 → 64 ≤ s + i → bit_at (joined a b s) i ≡ bit_at b (s + i - 64)
joined_high a b s i la ls li le =
    bit_at_or (a / 2 ^ s) (b * 2 % 2 ^ 64 * 2 ^ (63 - s) % 2 ^ 64) i
    ∙ (zero-max (bit_at (a / 2 ^ s) i) (bit_at (b * 2 % 2 ^ 64 * 2 ^ (63 - s) % 2 ^ 64) i) (shifted_down a s i ∙ bit_at_above a 64 (s + i) la le)
    ∙ (shifted_up (b * 2 % 2 ^ 64) (63 - s) i li (omega arith)
    ∙ (doubled b (i - (63 - s)) (omega arith) (omega arith) ∙ ap (λ (k : ℕ). bit_at b k) same)))
  where
    same : i - (63 - s) - 1 ≡ s + i - 64
    same = omega arith

-- the bits of words from one on
pub bits_from : (words : List ℕ) (first i : ℕ) → slice_index_or words (first / 64) 0 < 2 ^ 64 → i < 64
    → has_bit (joined (slice_index_or words (first / 64) 0) (slice_index_or words (first / 64 + 1) 0) (first % 64)) i ≡ bit_in words (first + i)
bits_from words first i small li = elim (cases_lt (first % 64 + i) 64) [
  | inl low ↦
      let word : (first + i) / 64 ≡ first / 64 = omega arith in
      let bit : (first + i) % 64 ≡ first % 64 + i = omega arith in
      ap (λ (x : ℕ). x == 1) (joined_low a b (first % 64) i (omega arith) low
      ∙ (ap (λ (k : ℕ). bit_at a k) (sym bit) ∙ ap (λ (k : ℕ). bit_at (slice_index_or words k 0) ((first + i) % 64)) (sym word)))
  | inr high ↦
      let word : (first + i) / 64 ≡ first / 64 + 1 = omega arith in
      let bit : (first + i) % 64 ≡ first % 64 + i - 64 = omega arith in
      ap (λ (x : ℕ). x == 1) (joined_high a b (first % 64) i small (omega arith) li high
      ∙ (ap (λ (k : ℕ). bit_at b k) (sym bit) ∙ ap (λ (k : ℕ). bit_at (slice_index_or words k 0) ((first + i) % 64)) (sym word)))
]
  where
    a : ℕ
    a = slice_index_or words (first / 64) 0

    b : ℕ
    b = slice_index_or words (first / 64 + 1) 0

-- both have it
min-one : (x y : ℕ) → x < 2 → y < 2 → (min x y == 1) ≡ (x == 1 && y == 1)
min-one zero zero lx ly = refl
min-one zero (suc zero) lx ly = refl
min-one (suc zero) zero lx ly = refl
min-one (suc zero) (suc zero) lx ly = refl
min-one (suc (suc x)) y lx ly = elim (too_much x lx) [ ]
  where
    too_much : (x : ℕ) → suc (suc x) < 2 → ⊥
    too_much x lt = omega arith
min-one zero (suc (suc y)) lx ly = elim (too_much y ly) [ ]
  where
    too_much : (x : ℕ) → suc (suc x) < 2 → ⊥
    too_much x lt = omega arith
min-one (suc zero) (suc (suc y)) lx ly = elim (too_much y ly) [ ]
  where
    too_much : (x : ℕ) → suc (suc x) < 2 → ⊥
    too_much x lt = omega arith

pub both_have : (x y i : ℕ) → has_bit (bit_and x y) i ≡ (has_bit x i && has_bit y i)
both_have x y i = ap (λ (n : ℕ). n == 1) (bit_at_and x y i) ∙ min-one (bit_at x i) (bit_at y i) (bit_at-lt x i) (bit_at-lt y i)

-- a bit that is set
or-true : (x : Bool) → (x || true) ≡ true
or-true true = refl
or-true false = refl

or-false : (x : Bool) → (x || false) ≡ x
or-false true = refl
or-false false = refl

pub bit_set : (words : List ℕ) (bit k : ℕ) → bit / 64 < length words
    → bit_in (set words (bit / 64) (bit_or (slice_index_or words (bit / 64) 0) (1 * 2 ^ (bit % 64) % 2 ^ 64))) k ≡ (bit_in words k || k == bit)
bit_set words bit k lt = elim (cases_lt (k / 64) (bit / 64)) [
  | inl less ↦ other (omega arith) (omega arith)
  | inr more ↦ elim (cases_lt (bit / 64) (k / 64)) [
    | inl above ↦ other (omega arith) (omega arith)
    | inr same ↦ inside (omega arith)
  ]
]
  where
    word : ℕ
    word = bit_or (slice_index_or words (bit / 64) 0) (1 * 2 ^ (bit % 64) % 2 ^ 64)

    other : k / 64 ≢ bit / 64 → k ≢ bit → bit_in (set words (bit / 64) word) k ≡ (bit_in words k || k == bit)
    other ne off = ap (λ (x : ℕ). has_bit x (k % 64)) (get_or-set_other words (bit / 64) (k / 64) word 0 ne)
        ∙ sym (ap (λ (t : Bool). bit_in words k || t) (ne_eqb k bit off) ∙ or-false (bit_in words k))

    here : k / 64 ≡ bit / 64 → slice_index_or (set words (bit / 64) word) (k / 64) 0 ≡ word
    here e = ap (λ (n : ℕ). slice_index_or (set words (bit / 64) word) n 0) e ∙ get_or-set_same words (bit / 64) word 0 lt

    inside : k / 64 ≡ bit / 64 → bit_in (set words (bit / 64) word) k ≡ (bit_in words k || k == bit)
    inside e = elim (cases_lt (k % 64) (bit % 64)) [
      | inl less ↦ apart e (omega arith) (omega arith)
      | inr more ↦ elim (cases_lt (bit % 64) (k % 64)) [
        | inl above ↦ apart e (omega arith) (omega arith)
        | inr same ↦ exact e (omega arith) (omega arith)
      ]
    ]
      where
        apart : k / 64 ≡ bit / 64 → k % 64 ≢ bit % 64 → k ≢ bit → bit_in (set words (bit / 64) word) k ≡ (bit_in words k || k == bit)
        apart e ne off = ap (λ (x : ℕ). has_bit x (k % 64)) (here e)
            ∙ (ap (λ (x : ℕ). x == 1) (bit_at_set_other w64 (slice_index_or words (bit / 64) 0) (bit % 64) (omega arith) (k % 64) ne)
            ∙ (ap (λ (n : ℕ). has_bit (slice_index_or words n 0) (k % 64)) (sym e)
            ∙ sym (ap (λ (t : Bool). bit_in words k || t) (ne_eqb k bit off) ∙ or-false (bit_in words k))))

        exact : k / 64 ≡ bit / 64 → k % 64 ≡ bit % 64 → k ≡ bit → bit_in (set words (bit / 64) word) k ≡ (bit_in words k || k == bit)
        exact e f is = ap (λ (x : ℕ). has_bit x (k % 64)) (here e)
            ∙ (ap (λ (n : ℕ). has_bit word n) f
            ∙ (ap (λ (x : ℕ). x == 1) (bit_at_set_same w64 (slice_index_or words (bit / 64) 0) (bit % 64) (omega arith))
            ∙ sym (ap (λ (t : Bool). bit_in words k || t) (eq-eqb k bit is) ∙ or-true (bit_in words k))))

-- an element doesn't depend on the value that stands for missing ones
pub same_default : {A : Type 0} (xs : List A) (i : ℕ) (d e : A) → i < length xs → get_or xs i d ≡ get_or xs i e
same_default [] i d e lt = elim lt [ ]
same_default (x ∷ xs) zero d e lt = refl
same_default (x ∷ xs) (suc i) d e lt = same_default xs i d e (omega arith)
