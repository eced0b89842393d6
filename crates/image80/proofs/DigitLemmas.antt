-- The digits of words and the texts of ranges.
use Rattle.std.proofs.Common.{◌≡◌, ℕ, zero, suc, ◌+◌, ◌-◌, ◌*◌, ◌/◌, ◌%◌, ◌<◌, ◌≤◌, Bool, true, false, ◌&&◌, nat_eq, nat_lt, List, [], ◌∷◌, ◌++◌, length, get_or, refl, ap, sym, subst, ◌∙◌, arith}
use Rattle.std.specs.Prelude.{codes, slice_index, if◌then◌else◌}
use Rattle.std.specs.List.{list_all, range_with_len}
use Rattle.std.proofs.lemmas.Bool.{eqb-true}
use Rattle.text80.specs.Digits.{digit_text, word_text}
use Rattle.image80.specs.declared.range.Range.{Range}
use Rattle.image80.specs.Range.{IsInMemory}
use Rattle.image80.specs.RegionsText.{range_text}

-- the value of a digit
abbrev value : ℕ → ℕ
value digit = if nat_lt digit 58 then digit - 48 else digit - 55

both : (a b : Bool) → (a && b) ≡ true → (a ≡ true) × (b ≡ true)
both true b h = (refl, h)
both false b h = cc

each_passes : (f : ℕ → Bool) (from n i : ℕ) → list_all f (range_with_len from n) ≡ true → i < n → f (from + i) ≡ true
each_passes f from zero i h inside = absurd (omega arith)
each_passes f from (suc n) zero h inside = let same : from + 0 ≡ from = omega arith in ap f same ∙ (both (f from) (list_all f (range_with_len (from + 1) n)) h).0
each_passes f from (suc n) (suc i) h inside =
    let same : from + suc i ≡ from + 1 + i = omega arith in
    ap f same ∙ each_passes f (from + 1) n i (both (f from) (list_all f (range_with_len (from + 1) n)) h).1 (omega arith)

value_of_digit : (n : ℕ) → n < 16 → value (slice_index (codes "0123456789ABCDEF") n) ≡ n
value_of_digit n below =
    let same : 0 + n ≡ n = omega arith in
    let passes : nat_eq (value (slice_index (codes "0123456789ABCDEF") (0 + n))) (0 + n) ≡ true =
    each_passes (λ k. nat_eq (value (slice_index (codes "0123456789ABCDEF") k)) k) 0 16 n refl below in
    eqb-true (value (slice_index (codes "0123456789ABCDEF") n)) n
    (subst (λ k. nat_eq (value (slice_index (codes "0123456789ABCDEF") k)) k ≡ true) same passes)

-- values below 16 with one digit are one
digit_same : (a b : ℕ) → a < 16 → b < 16 → digit_text a ≡ digit_text b → a ≡ b
digit_same a b a_below b_below same =
    let digits : slice_index (codes "0123456789ABCDEF") a ≡ slice_index (codes "0123456789ABCDEF") b = cc in
    sym (value_of_digit a a_below) ∙ ap value digits ∙ value_of_digit b b_below

-- a word is its four digits' values
word_is : (word : ℕ) → word < 65536 → word ≡ word / 256 / 16 * 4096 + word / 256 % 16 * 256 + word % 256 / 16 * 16 + word % 256 % 16
word_is word below = omega arith

-- words with the same digits are one
pub word_same : (v w : ℕ) → v < 65536 → w < 65536 → word_text v ≡ word_text w → v ≡ w
word_same v w v_below w_below same =
    let first : v / 256 / 16 ≡ w / 256 / 16 = digit_same (v / 256 / 16) (w / 256 / 16) (omega arith) (omega arith) (cc) in
    let second : v / 256 % 16 ≡ w / 256 % 16 = digit_same (v / 256 % 16) (w / 256 % 16) (omega arith) (omega arith) (cc) in
    let third : v % 256 / 16 ≡ w % 256 / 16 = digit_same (v % 256 / 16) (w % 256 / 16) (omega arith) (omega arith) (cc) in
    let fourth : v % 256 % 16 ≡ w % 256 % 16 = digit_same (v % 256 % 16) (w % 256 % 16) (omega arith) (omega arith) (cc) in
    word_is v v_below ∙ (rw (first, second, third, fourth) (sym (word_is w w_below)))

-- ranges in memory with the same text are one
pub range_same : (r s : Range) → IsInMemory r → IsInMemory s → range_text r ≡ range_text s → (r.first ≡ s.first) × (r.length ≡ s.length)
range_same r s r_in s_in same =
    let heads : word_text r.first ≡ word_text s.first = cc in
    let tails : word_text r.length ≡ word_text s.length = cc in
    (word_same r.first s.first r_in.first s_in.first heads, word_same r.length s.length r_in.length s_in.length tails)

-- nine bytes that read as two words round a space are the text of a range
pub range_is : (text : List ℕ) (first length' : ℕ) → length text ≡ 9 → get_or text 4 0 ≡ 32 →
    get_or text 0 0 ∷ get_or text 1 0 ∷ get_or text 2 0 ∷ get_or text 3 0 ∷ [] ≡ word_text first →
    get_or text 5 0 ∷ get_or text 6 0 ∷ get_or text 7 0 ∷ get_or text 8 0 ∷ [] ≡ word_text length' →
    text ≡ word_text first ++ 32 ∷ word_text length'
range_is (a ∷ b ∷ c ∷ d ∷ e ∷ f ∷ g ∷ h ∷ i ∷ []) first length' nine space high low =
    ap (λ w. w ++ e ∷ f ∷ g ∷ h ∷ i ∷ []) high ∙ ap (λ w. word_text first ++ e ∷ w) low ∙ ap (λ s. word_text first ++ s ∷ word_text length') space
range_is _ first length' nine space high low = absurd (omega arith)

-- two words whose digits stand round a space are a range's first address and length where their text is its text
pub range_words : (range : Range) (text : List ℕ) (first length' : ℕ) → IsInMemory range → first < 65536 → length' < 65536 →
    text ≡ word_text first ++ 32 ∷ word_text length' → text ≡ range_text range → first + length' ≤ 65536
range_words range text first length' inside first_below length_below is same =
    let heads : word_text range.first ≡ word_text first = cc in
    let tails : word_text range.length ≡ word_text length' = cc in
    let low : range.first ≡ first = word_same range.first first inside.first first_below heads in
    let many : range.length ≡ length' = word_same range.length length' inside.length length_below tails in
    let within : range.first + range.length ≤ 65536 = inside.end in
    omega arith
