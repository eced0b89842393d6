-- Bytes of one target, and the words that they leave.
use Rattle.std.specs.Prelude.{◌≡◌, ◌≢◌, ℕ, zero, suc, ◌+◌, ◌-◌, ◌*◌, ◌/◌, ◌%◌, ◌<◌, ◌≤◌, ◌==◌, ◌&&◌, ◌||◌, max, not, nat_lt}
use Rattle.std.specs.Prelude.{if◌then◌else◌, Bool, true, false, Option, Some, None, List, [], ◌∷◌, ◌++◌, length, take, slice_index_or}
use Rattle.std.specs.List.{AllByRecursion, Contains, list_all}
use Rattle.std.specs.Option.{option_map_or}
use Rattle.std.proofs.Common.{refl, sym, ◌∙◌, ap, subst, arith, get_or, ◌⊎◌, inl, inr}
use Rattle.std.proofs.lemmas.Bool.{and_parts, and_from, eqb-true, eq-eqb, ne_eqb, true≢false, ltb-true, cases_lt}
use Rattle.std.proofs.lemmas.List.{take_more}
use Rattle.rom80_find.specs.Dump.{DumpValue, dump_byte}
use Rattle.rom80_pattern.specs.declared.code_byte.Half.{Half}
use Rattle.rom80_pattern.specs.declared.code_byte.Half.TheVariants.{Low, High}
use Rattle.rom80_pattern.specs.declared.code_byte.CodeByte.{CodeByte}
use Rattle.rom80_find.specs.Blocks.{AreFound, IsBest, high_sum, less, low_needed}
use Rattle.rom80_find.specs.Candidates.{is_half}
use Rattle.rom80_find.specs.Fixups.{all_fit, are_there}
use Rattle.rom80_find.specs.Marks.{has_row, is_in_row}
use Rattle.rom80_find.specs.Places.{fits, is_known}
use Rattle.rom80_find.proofs.SolveLemmas.{iff_bool, each_at}

pub eq_or : (n m : ℕ) → (n ≡ m) ⊎ (n ≢ m)
eq_or n m = elim (cases_lt n m) [
  | inl less ↦ inr (λ e. omega (arith, e, less))
  | inr from ↦ elim (cases_lt m n) [
    | inl more ↦ inr (λ e. omega (arith, e, more))
    | inr back ↦ inl (omega (arith, from, back))
  ]
]

-- what holds of all holds of each
pub each_true : {A : Type 0} (p : A → Bool) (xs : List A) (i : ℕ) (d : A) → list_all p xs ≡ true → i < length xs → p (get_or xs i d) ≡ true
each_true p [] i d h lt = elim lt [ ]
each_true p (x ∷ xs) zero d h lt = (and_parts (p x) (list_all p xs) h).0
each_true p (x ∷ xs) (suc i) d h lt = each_true p xs i d (and_parts (p x) (list_all p xs) h).1 (omega arith)

-- ---- sums of two bytes and an addend

-- the low byte of a sum
pub low_sum : (h l a : ℕ) → (256 * h + l + a) % 65536 % 256 ≡ (l + a % 256) % 256
low_sum h l a = omega arith

-- and the high one
pub high_is : (h l a : ℕ) → (256 * h + l + a) % 65536 / 256 % 256 ≡ high_sum h l a
high_is h l a = omega arith

-- which fit
pub low_fits : (h l a d : ℕ) → is_half Low a d (256 * h + l) ≡ ((l + a % 256) % 256 == d)
low_fits h l a d = iff_bool _ _
    (λ e. let is = eqb-true d ((256 * h + l + a) % 65536 % 256) e in eq-eqb ((l + a % 256) % 256) d (sym (low_sum h l a) ∙ sym is))
    (λ e. let is = eqb-true ((l + a % 256) % 256) d e in eq-eqb d ((256 * h + l + a) % 65536 % 256) (sym is ∙ sym (low_sum h l a)))

pub high_fits : (h l a d : ℕ) → is_half High a d (256 * h + l) ≡ (high_sum h l a == d)
high_fits h l a d = iff_bool _ _
    (λ e. let is = eqb-true d ((256 * h + l + a) % 65536 / 256 % 256) e in eq-eqb (high_sum h l a) d (sym (high_is h l a) ∙ sym is))
    (λ e. let is = eqb-true (high_sum h l a) d e in eq-eqb d ((256 * h + l + a) % 65536 / 256 % 256) (sym is ∙ sym (high_is h l a)))

-- a low byte that was found says the value's
pub low_back : (l a d : ℕ) → l < 256 → d < 256 → (l + a % 256) % 256 ≡ d → l ≡ less d (a % 256)
low_back l a d ll ld e = omega (arith, ll, ld, e)

-- with the low byte, so does a high one
pub high_back : (h l a d : ℕ) → h < 256 → d < 256 → high_sum h l a ≡ d → h ≡ less d (high_sum 0 l a)
high_back h l a d lh ld e = omega (arith, lh, ld, e)

-- ---- high bytes alone

-- with a low byte of 0 no sum carries
no_carry : (a : ℕ) → high_sum 0 0 a ≡ a / 256 % 256
no_carry a = omega arith

-- the high byte that the least addend leaves, if the value carries with it, and if not
above : (h l a : ℕ) → h < 256 → (l + a % 256) / 256 ≡ 1 → less (high_sum h l a) (high_sum 0 0 a) ≡ (h + 1) % 256
above h l a lh c = omega (arith, lh, c)

same : (h l a : ℕ) → h < 256 → (l + a % 256) / 256 ≡ 0 → less (high_sum h l a) (high_sum 0 0 a) ≡ h
same h l a lh c = omega (arith, lh, c)

-- then all others carry, too
others_carry : (l a b : ℕ) → l < 256 → a % 256 ≤ b % 256 → (l + a % 256) / 256 ≡ 1 → (l + b % 256) / 256 ≡ 1
others_carry l a b ll le c = omega (arith, ll, le, c)

with_carry : (h l b : ℕ) → (l + b % 256) / 256 ≡ 1 → ((h + 1) % 256 + b / 256) % 256 ≡ high_sum h l b
with_carry h l b c = omega (arith, c)

without : (h l b : ℕ) → (l + b % 256) / 256 ≡ 0 → (h + b / 256) % 256 ≡ high_sum h l b
without h l b c = omega (arith, c)

needed_low : (l b : ℕ) → l < 256 → (l + b % 256) / 256 ≡ 1 → less 0 (b % 256) ≤ l
needed_low l b ll c = omega (arith, ll, c)

none_needed : (h b d : ℕ) → (h + b / 256) % 256 ≡ d → low_needed h b d ≡ 0
none_needed h b d e = ap (λ (t : Bool). if t then 0 else less 0 (b % 256)) (eq-eqb ((h + b / 256) % 256) d e)

is_needed : (h b d : ℕ) → (h + b / 256) % 256 ≢ d → low_needed h b d ≡ less 0 (b % 256)
is_needed h b d e = ap (λ (t : Bool). if t then 0 else less 0 (b % 256)) (ne_eqb ((h + b / 256) % 256) d e)

two_ways : (l b : ℕ) → l < 256 → (l + b % 256) / 256 ≢ 1 → (l + b % 256) / 256 ≡ 0
two_ways l b ll ne = omega (arith, ll, ne)

one_more : (h b : ℕ) → (h + b / 256) % 256 ≢ (h + b / 256 + 1) % 256
one_more h b e = omega (arith, e)

carried : (h l b : ℕ) → (l + b % 256) / 256 ≡ 1 → high_sum h l b ≡ (h + b / 256 + 1) % 256
carried h l b c = omega (arith, c)

-- the low bytes that are needed are at most the value's; 0 if the value carries with the least addend
abbrev pub bound : (low least : ℕ) → ℕ
bound low least = if (low + least % 256) / 256 == 1 then 0 else low

abbrev pub left_high : (high low least : ℕ) → ℕ
left_high high low least = less (high_sum high low least) (high_sum 0 0 least)

pub needed_below : (h l a b : ℕ) → h < 256 → l < 256 → a % 256 ≤ b % 256 → low_needed (left_high h l a) b (high_sum h l b) ≤ bound l a
needed_below h l a b lh ll le = elim (eq_or ((l + a % 256) / 256) 1) [
  | inl c ↦
      let zero_needed : low_needed (left_high h l a) b (high_sum h l b) ≡ 0 =
      none_needed (left_high h l a) b (high_sum h l b)
      (ap (λ (n : ℕ). (n + b / 256) % 256) (above h l a lh c) ∙ with_carry h l b (others_carry l a b ll le c)) in
      omega (arith, zero_needed)
  | inr n ↦
      let z = two_ways l a ll n in
      let is : bound l a ≡ l = ap (λ (t : Bool). if t then 0 else l) (ne_eqb ((l + a % 256) / 256) 1 n) in
      let kept : left_high h l a ≡ h = same h l a lh z in
      elim (eq_or ((l + b % 256) / 256) 1) [
        | inl c ↦
            let needed : low_needed (left_high h l a) b (high_sum h l b) ≡ less 0 (b % 256) =
            is_needed (left_high h l a) b (high_sum h l b)
            (λ e. one_more h b (ap (λ (n : ℕ). (n + b / 256) % 256) (sym kept) ∙ (e ∙ carried h l b c))) in
            let low = needed_low l b ll c in
            omega (arith, needed, is, low)
        | inr m ↦
            let zero_needed : low_needed (left_high h l a) b (high_sum h l b) ≡ 0 =
            none_needed (left_high h l a) b (high_sum h l b)
            (ap (λ (n : ℕ). (n + b / 256) % 256) kept ∙ without h l b (two_ways l b ll m)) in
            omega (arith, zero_needed)
      ]
]

-- with a low byte that is enough for a byte and isn't more, the sum has it
pub needed_fits : (h l a b low : ℕ) → h < 256 → l < 256 → a % 256 ≤ b % 256 → low_needed (left_high h l a) b (high_sum h l b) ≤ low
    → low ≤ bound l a → high_sum (left_high h l a) low b ≡ high_sum h l b
needed_fits h l a b low lh ll le enough most = elim (eq_or ((l + a % 256) / 256) 1) [
  | inl c ↦
      let is : bound l a ≡ 0 = ap (λ (t : Bool). if t then 0 else l) (eq-eqb ((l + a % 256) / 256) 1 c) in
      let none : low ≡ 0 = omega (arith, is, most) in
      ap (λ (n : ℕ). high_sum (left_high h l a) n b) none
      ∙ (ap (λ (n : ℕ). high_sum n 0 b) (above h l a lh c) ∙ (plain ((h + 1) % 256) b ∙ with_carry h l b (others_carry l a b ll le c)))
  | inr n ↦
      let z = two_ways l a ll n in
      let is : bound l a ≡ l = ap (λ (t : Bool). if t then 0 else l) (ne_eqb ((l + a % 256) / 256) 1 n) in
      let kept : left_high h l a ≡ h = same h l a lh z in
      ap (λ (n : ℕ). high_sum n low b) kept
      ∙ (elim (eq_or ((l + b % 256) / 256) 1) [
        | inl c ↦
            let needed : low_needed (left_high h l a) b (high_sum h l b) ≡ less 0 (b % 256) =
            is_needed (left_high h l a) b (high_sum h l b)
            (λ e. one_more h b (ap (λ (n : ℕ). (n + b / 256) % 256) (sym kept) ∙ (e ∙ carried h l b c))) in
            let from : less 0 (b % 256) ≤ low = omega (arith, needed, enough) in
            let to : low ≤ l = omega (arith, most, is) in
            let too : (low + b % 256) / 256 ≡ 1 = enough_carries l low b ll c from to in
            ap (λ (n : ℕ). (h + b / 256 + n) % 256) (too ∙ sym c)
        | inr m ↦
            let to : low ≤ l = omega (arith, most, is) in
            let none : (low + b % 256) / 256 ≡ 0 = fewer l low b ll (two_ways l b ll m) to in
            ap (λ (n : ℕ). (h + b / 256 + n) % 256) (none ∙ sym (two_ways l b ll m))
      ])
]
  where
    plain : (h b : ℕ) → high_sum h 0 b ≡ (h + b / 256) % 256
    plain h b = omega arith

    enough_carries : (l low b : ℕ) → l < 256 → (l + b % 256) / 256 ≡ 1 → less 0 (b % 256) ≤ low → low ≤ l → (low + b % 256) / 256 ≡ 1
    enough_carries l low b ll c from to = omega (arith, ll, c, from, to)

    fewer : (l low b : ℕ) → l < 256 → (l + b % 256) / 256 ≡ 0 → low ≤ l → (low + b % 256) / 256 ≡ 0
    fewer l low b ll c to = omega (arith, ll, c, to)

-- ---- bytes of the dump

-- the byte of the dump in place of one of the code; 0 without one
abbrev pub byte_or : Option ℕ → ℕ
byte_or o = option_map_or (λ (d : ℕ). d) o 0

abbrev pub entry : (dump : DumpValue) (address : ℕ) → CodeByte → ℕ
entry dump address b = byte_or (dump_byte dump ((address + b.offset) % 65536))

pub from_row : (o : Option ℕ) → option_map_or (is_in_row 256) o false ≡ true → (o ≡ Some (byte_or o)) × (byte_or o < 256)
from_row None h = elim (true≢false (sym h)) [ ]
from_row (Some d) h = (refl, ltb-true d 256 (and_parts (256 == d || 256 == 256) (nat_lt d 256) h).1)

pub fits_is : (dump : DumpValue) (address : ℕ) (b : CodeByte) (w : ℕ) → has_row dump 256 ((address + b.offset) % 65536) ≡ true
    → fits dump address b w ≡ is_half b.half b.addend (entry dump address b) w
fits_is dump address b w there =
    ap (λ (o : Option ℕ). option_map_or (λ d. is_half b.half b.addend d w) o false) (from_row (dump_byte dump ((address + b.offset) % 65536)) there).0

-- a byte that was found
pub found_is : (dump : DumpValue) (first k : ℕ) (found : List ℕ) (b : CodeByte) → AreFound dump (first + b.offset) found → k < 4096
    → has_row dump 256 ((first + k + b.offset) % 65536) ≡ true → slice_index_or found k 0 ≡ entry dump (first + k) b
found_is dump first k found b h lt there =
    h.each k (entry dump (first + k) b) lt
    (subst (λ (n : ℕ). dump_byte dump (n % 65536) ≡ Some (entry dump (first + k) b)) (swapped first k b.offset)
    (from_row (dump_byte dump ((first + k + b.offset) % 65536)) there).0)
  where
    swapped : (f k o : ℕ) → f + k + o ≡ f + o + k
    swapped f k o = omega arith

-- a comparison of it with a value
module _ (dump : DumpValue) (address : ℕ) (b : CodeByte) (h l d : ℕ) (old new : Bool) (there : has_row dump 256 ((address + b.offset) % 65536) ≡ true)
    (is : d ≡ entry dump address b) where
  pub low_compared : b.half ≡ Low → new ≡ (old && (l + b.addend % 256) % 256 == d) → new ≡ (old && fits dump address b (256 * h + l))
  low_compared half e =
      e ∙ (ap (λ (n : ℕ). old && (l + b.addend % 256) % 256 == n) is
      ∙ ap (λ (t : Bool). old && t) (sym (fits_is dump address b (256 * h + l) there
      ∙ (ap (λ (k : Half). is_half k b.addend (entry dump address b) (256 * h + l)) half ∙ low_fits h l b.addend (entry dump address b)))))

  pub high_compared : b.half ≡ High → new ≡ (old && high_sum h l b.addend == d) → new ≡ (old && fits dump address b (256 * h + l))
  high_compared half e =
      e ∙ (ap (λ (n : ℕ). old && high_sum h l b.addend == n) is
      ∙ ap (λ (t : Bool). old && t) (sym (fits_is dump address b (256 * h + l) there
      ∙ (ap (λ (k : Half). is_half k b.addend (entry dump address b) (256 * h + l)) half ∙ high_fits h l b.addend (entry dump address b)))))

-- one of some bytes
pub one_there : (dump : DumpValue) (address : ℕ) (bytes : List CodeByte) (b : CodeByte) → are_there dump address bytes ≡ true → Contains bytes b
    → has_row dump 256 ((address + b.offset) % 65536) ≡ true
one_there dump address bytes b all has =
    subst (λ (c : CodeByte). has_row dump 256 ((address + c.offset) % 65536) ≡ true) has.2
    (each_true (λ c. has_row dump 256 ((address + c.offset) % 65536)) bytes has.0 b all has.1)

pub one_fits : (dump : DumpValue) (address : ℕ) (bytes : List CodeByte) (b : CodeByte) (w : ℕ) → all_fit dump address bytes w ≡ true → Contains bytes b
    → fits dump address b w ≡ true
one_fits dump address bytes b w all has =
    subst (λ (c : CodeByte). fits dump address c w ≡ true) has.2
    (each_true (λ c. fits dump address c w) bytes has.0 b all has.1)

-- ---- the best word

split_word : (w : ℕ) → w ≡ 256 * (w / 256) + w % 256
split_word w = omega arith

high_small : (w : ℕ) → w < 65536 → w / 256 < 256
high_small w lt = omega (arith, lt)

low_small : (w : ℕ) → w % 256 < 256
low_small w = omega arith

module _ (dump : DumpValue) (address : ℕ) (b : CodeByte) (w : ℕ) (there : has_row dump 256 ((address + b.offset) % 65536) ≡ true)
    (small : w < 65536) (fit : fits dump address b w ≡ true) where
  half : is_half b.half b.addend (entry dump address b) (256 * (w / 256) + w % 256) ≡ true
  half = ap (λ (n : ℕ). is_half b.half b.addend (entry dump address b) n) (sym (split_word w)) ∙ (sym (fits_is dump address b w there) ∙ fit)

  pub low_sum_is : b.half ≡ Low → (w % 256 + b.addend % 256) % 256 ≡ entry dump address b
  low_sum_is low = eqb-true ((w % 256 + b.addend % 256) % 256) (entry dump address b)
      (sym (low_fits (w / 256) (w % 256) b.addend (entry dump address b))
      ∙ (ap (λ (k : Half). is_half k b.addend (entry dump address b) (256 * (w / 256) + w % 256)) (sym low) ∙ half))

  pub high_sum_is : b.half ≡ High → high_sum (w / 256) (w % 256) b.addend ≡ entry dump address b
  high_sum_is high = eqb-true (high_sum (w / 256) (w % 256) b.addend) (entry dump address b)
      (sym (high_fits (w / 256) (w % 256) b.addend (entry dump address b))
      ∙ (ap (λ (k : Half). is_half k b.addend (entry dump address b) (256 * (w / 256) + w % 256)) (sym high) ∙ half))

  entry_small : entry dump address b < 256
  entry_small = (from_row (dump_byte dump ((address + b.offset) % 65536)) there).1

  -- the word's low byte, and its high one
  pub low_is : b.half ≡ Low → w % 256 ≡ less (entry dump address b) (b.addend % 256)
  low_is low = low_back (w % 256) b.addend (entry dump address b) (low_small w) entry_small (low_sum_is low)

  pub high_byte_is : b.half ≡ High → w / 256 ≡ less (entry dump address b) (high_sum 0 (w % 256) b.addend)
  high_byte_is high = high_back (w / 256) (w % 256) b.addend (entry dump address b) (high_small w small) entry_small (high_sum_is high)

-- words with one low byte fit low bytes alike
low_alike : (dump : DumpValue) (address : ℕ) (bytes : List CodeByte) (h l g : ℕ) → AllByRecursion (λ b. b.half ≢ High) bytes
    → are_there dump address bytes ≡ true → all_fit dump address bytes (256 * h + l) ≡ all_fit dump address bytes (256 * g + l)
low_alike dump address [] h l g low there = refl
low_alike dump address (b ∷ bs) h l g low there =
    let parts = and_parts (has_row dump 256 ((address + b.offset) % 65536)) (are_there dump address bs) there in
    ap (λ (t : Bool). t && all_fit dump address bs (256 * h + l)) (one b.half refl parts.0)
    ∙ ap (λ (t : Bool). fits dump address b (256 * g + l) && t) (low_alike dump address bs h l g low.1 parts.1)
  where
    one : (k : Half) → b.half ≡ k → has_row dump 256 ((address + b.offset) % 65536) ≡ true → fits dump address b (256 * h + l) ≡ fits dump address b (256 * g + l)
    one Low e is =
        fits_is dump address b (256 * h + l) is
        ∙ (ap (λ (k : Half). is_half k b.addend (entry dump address b) (256 * h + l)) e
        ∙ (low_fits h l b.addend (entry dump address b)
        ∙ sym (fits_is dump address b (256 * g + l) is
        ∙ (ap (λ (k : Half). is_half k b.addend (entry dump address b) (256 * g + l)) e ∙ low_fits g l b.addend (entry dump address b)))))
    one High e is = elim (low.0 e) [ ]

-- of bytes with a low and a high one there is one word
pub both_best : (dump : DumpValue) (address number : ℕ) (bytes : List CodeByte) (low high : CodeByte) (l h : ℕ)
    → are_there dump address bytes ≡ true → Contains bytes low → low.half ≡ Low → Contains bytes high → high.half ≡ High
    → l ≡ less (entry dump address low) (low.addend % 256) → h ≡ less (entry dump address high) (high_sum 0 l high.addend)
    → ((n : ℕ) → is_known address number n ≡ true) → IsBest dump address number bytes (256 * h + l)
both_best dump address number bytes low high l h there low_in is_low high_in is_high le he free = record {
  small = below l h (ap (λ (n : ℕ). n % 256) le ∙ (twice_less (entry dump address low) (low.addend % 256) ∙ sym le)) (ap (λ (n : ℕ). n % 256) he ∙ (twice_less (entry dump address high) (high_sum 0 l high.addend) ∙ sym he));
  known = free (256 * h + l);
  best = λ w small known fit.
      let low_there = one_there dump address bytes low there low_in in
      let high_there = one_there dump address bytes high there high_in in
      let same_low : w % 256 ≡ l = low_is dump address low w low_there small (one_fits dump address bytes low w fit low_in) is_low ∙ sym le in
      let same_high : w / 256 ≡ h =
      high_byte_is dump address high w high_there small (one_fits dump address bytes high w fit high_in) is_high
      ∙ (ap (λ (n : ℕ). less (entry dump address high) (high_sum 0 n high.addend)) same_low ∙ sym he) in
      subst (λ (n : ℕ). all_fit dump address bytes n ≡ true)
      (split_word w ∙ (ap (λ (n : ℕ). 256 * n + w % 256) same_high ∙ ap (λ (n : ℕ). 256 * h + n) same_low)) fit;
}
  where
    twice_less : (d m : ℕ) → less d m % 256 ≡ less d m
    twice_less d m = omega arith

    below : (l h : ℕ) → l % 256 ≡ l → h % 256 ≡ h → 256 * h + l < 65536
    below l h el eh = omega (arith, el, eh)

-- of low bytes alone any high byte goes
pub low_best : (dump : DumpValue) (address number : ℕ) (bytes : List CodeByte) (low : CodeByte) (l h : ℕ)
    → are_there dump address bytes ≡ true → Contains bytes low → low.half ≡ Low → AllByRecursion (λ b. b.half ≢ High) bytes → h < 256
    → l ≡ less (entry dump address low) (low.addend % 256)
    → ((n : ℕ) → is_known address number n ≡ true) → IsBest dump address number bytes (256 * h + l)
low_best dump address number bytes low l h there low_in is_low lows lh le free = record {
  small = below l h lh (ap (λ (n : ℕ). n % 256) le ∙ (twice_less (entry dump address low) (low.addend % 256) ∙ sym le));
  known = free (256 * h + l);
  best = λ w small known fit.
      let low_there = one_there dump address bytes low there low_in in
      let same_low : w % 256 ≡ l = low_is dump address low w low_there small (one_fits dump address bytes low w fit low_in) is_low ∙ sym le in
      low_alike dump address bytes h l (w / 256) lows there
      ∙ subst (λ (n : ℕ). all_fit dump address bytes n ≡ true) (split_word w ∙ ap (λ (n : ℕ). 256 * (w / 256) + n) same_low) fit;
}
  where
    twice_less : (d m : ℕ) → less d m % 256 ≡ less d m
    twice_less d m = omega arith

    below : (l h : ℕ) → h < 256 → l % 256 ≡ l → 256 * h + l < 65536
    below l h lh el = omega (arith, el, lh)

-- of high bytes alone the least word
abbrev pub needed : (dump : DumpValue) (address high : ℕ) → CodeByte → ℕ
needed dump address high b = low_needed high b.addend (entry dump address b)

pub high_best : (dump : DumpValue) (address number : ℕ) (bytes : List CodeByte) (least : CodeByte) (l h : ℕ)
    → are_there dump address bytes ≡ true → Contains bytes least → AllByRecursion (λ b. b.half ≢ Low) bytes
    → AllByRecursion (λ b. least.addend % 256 ≤ b.addend % 256) bytes
    → h ≡ less (entry dump address least) (high_sum 0 0 least.addend) → l < 256
    → AllByRecursion (λ b. needed dump address h b ≤ l) bytes
    → ((n : ℕ) → AllByRecursion (λ b. needed dump address h b ≤ n) bytes → l ≤ n)
    → ((n : ℕ) → is_known address number n ≡ true) → IsBest dump address number bytes (256 * h + l)
high_best dump address number bytes least l h there least_in highs leasts he ll enough most free = record {
  small = below l h ll (ap (λ (n : ℕ). n % 256) he ∙ (twice_less (entry dump address least) (high_sum 0 0 least.addend) ∙ sym he));
  known = free (256 * h + l);
  best = λ w small known fit.
      let least_there = one_there dump address bytes least there least_in in
      let least_high = not_low least.half (each_in (λ b. b.half ≢ Low) bytes least highs least_in) in
      let first : high_sum (w / 256) (w % 256) least.addend ≡ entry dump address least =
      high_sum_is dump address least w least_there small (one_fits dump address bytes least w fit least_in) least_high in
      let is : h ≡ left_high (w / 256) (w % 256) least.addend = he ∙ ap (λ (n : ℕ). less n (high_sum 0 0 least.addend)) (sym first) in
      let all = each_needed w small bytes there highs leasts fit is in
      let at_most : l ≤ bound (w % 256) least.addend = most (bound (w % 256) least.addend) all in
      each_fits w small bytes there highs leasts fit enough at_most is;
}
  where
    twice_less : (d m : ℕ) → less d m % 256 ≡ less d m
    twice_less d m = omega arith

    below : (l h : ℕ) → l < 256 → h % 256 ≡ h → 256 * h + l < 65536
    below l h ll eh = omega (arith, eh, ll)

    not_low : (k : Half) → k ≢ Low → k ≡ High
    not_low Low ne = elim (ne refl) [ ]
    not_low High ne = refl

    each_in : (P : CodeByte → Type 0) (bs : List CodeByte) (b : CodeByte) → AllByRecursion P bs → Contains bs b → P b
    each_in P bs b all has = subst P has.2 (each_at P bs has.0 b all has.1)

    sum_of : (w : ℕ) (b : CodeByte) → w < 65536 → has_row dump 256 ((address + b.offset) % 65536) ≡ true → b.half ≢ Low → fits dump address b w ≡ true
        → high_sum (w / 256) (w % 256) b.addend ≡ entry dump address b
    sum_of w b small is high fit = high_sum_is dump address b w is small fit (not_low b.half high)

    each_needed : (w : ℕ) → w < 65536 → (bs : List CodeByte) → are_there dump address bs ≡ true → AllByRecursion (λ b. b.half ≢ Low) bs
        → AllByRecursion (λ b. least.addend % 256 ≤ b.addend % 256) bs → all_fit dump address bs w ≡ true
        → h ≡ left_high (w / 256) (w % 256) least.addend → AllByRecursion (λ b. needed dump address h b ≤ bound (w % 256) least.addend) bs
    each_needed w small [] is high le fit e = tt
    each_needed w small (b ∷ bs) is high le fit e =
        let here = and_parts (has_row dump 256 ((address + b.offset) % 65536)) (are_there dump address bs) is in
        let fits_here = and_parts (fits dump address b w) (all_fit dump address bs w) fit in (
          subst (λ (n : ℕ). low_needed n b.addend (entry dump address b) ≤ bound (w % 256) least.addend) (sym e)
              (subst (λ (n : ℕ). low_needed (left_high (w / 256) (w % 256) least.addend) b.addend n ≤ bound (w % 256) least.addend)
              (sum_of w b small here.0 high.0 fits_here.0)
              (needed_below (w / 256) (w % 256) least.addend b.addend (high_small w small) (low_small w) le.0)),
          each_needed w small bs here.1 high.1 le.1 fits_here.1 e,
        )

    each_fits : (w : ℕ) → w < 65536 → (bs : List CodeByte) → are_there dump address bs ≡ true → AllByRecursion (λ b. b.half ≢ Low) bs
        → AllByRecursion (λ b. least.addend % 256 ≤ b.addend % 256) bs → all_fit dump address bs w ≡ true
        → AllByRecursion (λ b. needed dump address h b ≤ l) bs → l ≤ bound (w % 256) least.addend
        → h ≡ left_high (w / 256) (w % 256) least.addend → all_fit dump address bs (256 * h + l) ≡ true
    each_fits w small [] is high le fit enough most e = refl
    each_fits w small (b ∷ bs) is high le fit enough most e =
        let here = and_parts (has_row dump 256 ((address + b.offset) % 65536)) (are_there dump address bs) is in
        let fits_here = and_parts (fits dump address b w) (all_fit dump address bs w) fit in
        let sum = sum_of w b small here.0 high.0 fits_here.0 in
        let needed_here : low_needed (left_high (w / 256) (w % 256) least.addend) b.addend (high_sum (w / 256) (w % 256) b.addend) ≤ l =
        subst (λ (n : ℕ). low_needed (left_high (w / 256) (w % 256) least.addend) b.addend n ≤ l) (sym sum)
        (subst (λ (n : ℕ). low_needed n b.addend (entry dump address b) ≤ l) e enough.0) in
        let same_sum : high_sum h l b.addend ≡ entry dump address b =
        ap (λ (n : ℕ). high_sum n l b.addend) e
        ∙ (needed_fits (w / 256) (w % 256) least.addend b.addend l (high_small w small) (low_small w) le.0 needed_here most ∙ sum) in
        and_from (fits dump address b (256 * h + l)) (all_fit dump address bs (256 * h + l))
        (fits_is dump address b (256 * h + l) here.0
        ∙ (ap (λ (k : Half). is_half k b.addend (entry dump address b) (256 * h + l)) (not_low b.half high.0)
        ∙ (high_fits h l b.addend (entry dump address b) ∙ eq-eqb (high_sum h l b.addend) (entry dump address b) same_sum)))
        (each_fits w small bs here.1 high.1 le.1 fits_here.1 enough.1 most e)

-- ---- the least low byte, one byte after another

pub needed_small : (h b d : ℕ) → low_needed h b d < 256
needed_small h b d = by ((h + b / 256) % 256 == d)
  where
    by : (t : Bool) → (if t then 0 else less 0 (b % 256)) < 256
    by true = omega arith
    by false = omega arith

weaker : {A : Type 0} (f : A → ℕ) (old new : ℕ) (xs : List A) → old ≤ new → AllByRecursion (λ x. f x ≤ old) xs → AllByRecursion (λ x. f x ≤ new) xs
weaker f old new [] le h = tt
weaker f old new (x ∷ xs) le h = (omega (arith, h.0, le), weaker f old new xs le h.1)

all_push : {A : Type 0} (P : A → Type 0) (xs : List A) (x : A) → AllByRecursion P xs → P x → AllByRecursion P (xs ++ x ∷ [])
all_push P [] x h here = (here, tt)
all_push P (y ∷ ys) x h here = (h.0, all_push P ys x h.1 here)

but_last : {A : Type 0} (P : A → Type 0) (xs : List A) (x : A) → AllByRecursion P (xs ++ x ∷ []) → AllByRecursion P xs × P x
but_last P [] x h = (tt, h.0)
but_last P (y ∷ ys) x h = let rest = but_last P ys x h.1 in ((h.0, rest.0), rest.1)

pub all_and : {A : Type 0} (P : A → Type 0) (i : ℕ) (xs : List A) (d : A) → i < length xs → AllByRecursion P (take i xs) → P (get_or xs i d)
    → AllByRecursion P (take (i + 1) xs)
all_and P i xs d lt h here = subst (λ (l : List _). AllByRecursion P l) (sym (take_more xs i d lt)) (all_push P (take i xs) (get_or xs i d) h here)

but_one : {A : Type 0} (P : A → Type 0) (i : ℕ) (xs : List A) (d : A) → i < length xs → AllByRecursion P (take (i + 1) xs)
    → AllByRecursion P (take i xs) × P (get_or xs i d)
but_one P i xs d lt h = but_last P (take i xs) (get_or xs i d) (subst (λ (l : List _). AllByRecursion P l) (take_more xs i d lt) h)

pub raised_enough : (f : CodeByte → ℕ) (bytes : List CodeByte) (i old new : ℕ) (d : CodeByte) → i < length bytes
    → AllByRecursion (λ b. f b ≤ old) (take i bytes) → new ≡ max old (f (get_or bytes i d)) → AllByRecursion (λ b. f b ≤ new) (take (i + 1) bytes)
raised_enough f bytes i old new d lt h is =
    all_and (λ b. f b ≤ new) i bytes d lt (weaker f old new (take i bytes) (omega (arith, is)) h) (omega (arith, is))

pub raised_most : (f : CodeByte → ℕ) (bytes : List CodeByte) (i old new n : ℕ) (d : CodeByte) → i < length bytes
    → (AllByRecursion (λ b. f b ≤ n) (take i bytes) → old ≤ n) → new ≡ max old (f (get_or bytes i d))
    → AllByRecursion (λ b. f b ≤ n) (take (i + 1) bytes) → new ≤ n
raised_most f bytes i old new n d lt h is all =
    let parts = but_one (λ b. f b ≤ n) i bytes d lt all in
    let below = h parts.0 in
    omega (arith, is, below, parts.1)

pub all_below : (f : CodeByte → ℕ) (n : ℕ) (bytes : List CodeByte) → ((b : CodeByte) → f b ≤ n) → AllByRecursion (λ b. f b ≤ n) bytes
all_below f n [] h = tt
all_below f n (b ∷ bs) h = (h b, all_below f n bs h)

-- a value that isn't known may be each word
pub free_known : (address number word : ℕ) → 2 ≤ number → is_known address number word ≡ true
free_known address number word two =
    ap (λ (t : Bool). if t then word == 0 else (if number == 1 then word == address else true)) (ne_eqb number 0 (λ e. omega (arith, e, two)))
    ∙ ap (λ (t : Bool). if t then word == address else true) (ne_eqb number 1 (λ e. omega (arith, e, two)))
