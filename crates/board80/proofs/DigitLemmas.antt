-- The digits of bytes and addresses.
use Rattle.std.proofs.Common.{◌≡◌, ℕ, zero, suc, ◌+◌, ◌-◌, ◌*◌, ◌/◌, ◌%◌, ◌<◌, ◌≤◌, Bool, true, false, ◌&&◌, nat_eq}
use Rattle.std.proofs.Common.{nat_lt, List, [], ◌∷◌, ◌++◌, length, get_or, take, drop, refl, ap, sym, subst, ◌∙◌, arith}
use Rattle.std.specs.Prelude.{◌==◌, codes, slice_index, if◌then◌else◌}
use Rattle.std.specs.List.{list_all, list_any, range_with_len}
use Rattle.std.proofs.lemmas.Bool.{eqb-true, eq-eqb, or_parts}
use Rattle.text80.specs.Digits.{digit_text, byte_text, word_text}

-- the value of a digit
abbrev value : ℕ → ℕ
value digit = if nat_lt digit 58 then digit - 48 else digit - 55

both : (a b : Bool) → (a && b) ≡ true → (a ≡ true) × (b ≡ true)
both true b h = (refl, h)
both false b h = cc

each_passes : (f : ℕ → Bool) (from n i : ℕ) → list_all f (range_with_len from n) ≡ true → i < n → f (from + i) ≡ true
each_passes f from zero i h inside = absurd (omega arith)
each_passes f from (suc n) zero h inside = let same : from + 0 ≡ from = omega arith in ap f same ∙ (both (f from) (list_all f (range_with_len (from + 1) n)) h).0
each_passes f from (suc n) (suc i) h inside =
    let same : from + suc i ≡ from + 1 + i = omega arith in
    ap f same ∙ each_passes f (from + 1) n i (both (f from) (list_all f (range_with_len (from + 1) n)) h).1 (omega arith)

value_of_digit : (n : ℕ) → n < 16 → value (slice_index (codes "0123456789ABCDEF") n) ≡ n
value_of_digit n below =
    let same : 0 + n ≡ n = omega arith in
    let passes : nat_eq (value (slice_index (codes "0123456789ABCDEF") (0 + n))) (0 + n) ≡ true =
    each_passes (λ k. nat_eq (value (slice_index (codes "0123456789ABCDEF") k)) k) 0 16 n refl below in
    eqb-true (value (slice_index (codes "0123456789ABCDEF") n)) n
    (subst (λ k. nat_eq (value (slice_index (codes "0123456789ABCDEF") k)) k ≡ true) same passes)

-- values below 16 with one digit are one
digit_same : (a b : ℕ) → a < 16 → b < 16 → digit_text a ≡ digit_text b → a ≡ b
digit_same a b a_below b_below same =
    let digits : slice_index (codes "0123456789ABCDEF") a ≡ slice_index (codes "0123456789ABCDEF") b = cc in
    sym (value_of_digit a a_below) ∙ ap value digits ∙ value_of_digit b b_below

byte_is : (byte : ℕ) → byte < 256 → byte ≡ byte / 16 * 16 + byte % 16
byte_is byte below = omega arith

-- bytes with the same digits are one
byte_same : (v w : ℕ) → v < 256 → w < 256 → byte_text v ≡ byte_text w → v ≡ w
byte_same v w v_below w_below same =
    let first : v / 16 ≡ w / 16 = digit_same (v / 16) (w / 16) (omega arith) (omega arith) (cc) in
    let second : v % 16 ≡ w % 16 = digit_same (v % 16) (w % 16) (omega arith) (omega arith) (cc) in
    byte_is v v_below ∙ (rw (first, second) (sym (byte_is w w_below)))

word_is : (word : ℕ) → word < 65536 → word ≡ word / 256 * 256 + word % 256
word_is word below = omega arith

-- words with the same digits are one
word_same : (v w : ℕ) → v < 65536 → w < 65536 → word_text v ≡ word_text w → v ≡ w
word_same v w v_below w_below same =
    let high : v / 256 ≡ w / 256 = byte_same (v / 256) (w / 256) (omega arith) (omega arith) (ap (λ t. take 2 t) same) in
    let low : v % 256 ≡ w % 256 = byte_same (v % 256) (w % 256) (omega arith) (omega arith) (ap (λ t. drop 2 t) same) in
    word_is v v_below ∙ (rw (high, low) (sym (word_is w w_below)))

-- a byte at the beginning of a text, and what follows it
pub byte_first : (v w : ℕ) (xs ys : List ℕ) → v < 256 → w < 256 → byte_text v ++ xs ≡ byte_text w ++ ys → (v ≡ w) × (xs ≡ ys)
byte_first v w xs ys v_below w_below same = (byte_same v w v_below w_below (ap (λ t. take 2 t) same), ap (λ t. drop 2 t) same)

-- an address likewise
pub address_first : (v w : ℕ) (xs ys : List ℕ) → v < 65536 → w < 65536 → word_text v ++ xs ≡ word_text w ++ ys → (v ≡ w) × (xs ≡ ys)
address_first v w xs ys v_below w_below same = (word_same v w v_below w_below (ap (λ t. take 4 t) same), ap (λ t. drop 4 t) same)

-- what no digit passes
not_at : (p : ℕ → Bool) (xs : List ℕ) (n : ℕ) → p 0 ≡ false → list_any p xs ≡ false → p (slice_index xs n) ≡ false
not_at p [] n zero_is none = zero_is
not_at p (x ∷ xs) zero zero_is none = (or_parts (p x) (list_any p xs) none).0
not_at p (x ∷ xs) (suc n) zero_is none = not_at p xs n zero_is (or_parts (p x) (list_any p xs) none).1

pub digit_not : (p : ℕ → Bool) (n : ℕ) → p 0 ≡ false → list_any p (codes "0123456789ABCDEF") ≡ false → p (slice_index (codes "0123456789ABCDEF") n) ≡ false
digit_not p n zero_is none = not_at p (codes "0123456789ABCDEF") n zero_is none

-- a byte that is no digit begins no byte's text
pub no_digit : (bad n : ℕ) → (0 == bad) ≡ false → list_any (λ c. c == bad) (codes "0123456789ABCDEF") ≡ false → slice_index (codes "0123456789ABCDEF") n ≡ bad → ⊥
no_digit bad n zero_is none is =
    let not : (slice_index (codes "0123456789ABCDEF") n == bad) ≡ false = digit_not (λ c. c == bad) n zero_is none in
    let yes : (slice_index (codes "0123456789ABCDEF") n == bad) ≡ true = eq-eqb (slice_index (codes "0123456789ABCDEF") n) bad is in
    let both : true ≡ false = sym yes ∙ not in cc

-- the digits of a byte behind two zeros are those of a word below 256
pub byte_of_word : (byte : ℕ) → byte < 256 → word_text byte ≡ 48 ∷ 48 ∷ byte_text byte
byte_of_word byte below =
    let high : byte / 256 ≡ 0 = omega arith in
    let low : byte % 256 ≡ byte = omega arith in
    ap (λ h. byte_text h ++ byte_text (byte % 256)) high ∙ ap (λ l. byte_text 0 ++ byte_text l) low

-- what two digits behind zeros say of a text
pub byte_read : (text : List ℕ) (word : ℕ) → 2 ≤ length text → 48 ∷ 48 ∷ get_or text 0 0 ∷ get_or text 1 0 ∷ [] ≡ word_text word →
    text ≡ byte_text (word % 256) ++ drop 2 text
byte_read [] word long is = absurd (omega arith)
byte_read (a ∷ []) word long is = absurd (omega arith)
byte_read (a ∷ b ∷ rest) word long is = ap (λ t. drop 2 t ++ rest) is

pub no_byte_read : (text : List ℕ) → ((word : ℕ) → word < 65536 → 48 ∷ 48 ∷ get_or text 0 0 ∷ get_or text 1 0 ∷ [] ≡ word_text word → ⊥) →
    (byte : ℕ) (rest : List ℕ) → byte < 256 → text ≡ byte_text byte ++ rest → ⊥
no_byte_read text none byte rest below is =
    none byte (omega arith) (ap (λ t. 48 ∷ 48 ∷ get_or t 0 0 ∷ get_or t 1 0 ∷ []) is ∙ sym (byte_of_word byte below))
