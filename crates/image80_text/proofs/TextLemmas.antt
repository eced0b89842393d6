-- The nearest public by its definition as a walk down, and the lines of texts.
use Rattle.std.proofs.Common.{◌≡◌, ℕ, zero, suc, ◌+◌, ◌-◌, ◌<◌, ◌≤◌, Bool, true, false, Option, Some, None, List, [], ◌∷◌}
use Rattle.std.proofs.Common.{◌++◌, length, refl, sym, ap, ◌∙◌, subst, arith, cond, inl, inr, append_assoc, append-nil}
use Rattle.std.specs.Prelude.{◌==◌, find, nat_le, nat_lt, ◌*◌, ◌/◌, ◌%◌, codes, slice_index, IfSome, IfNone}
use Rattle.std.specs.List.{AllByRecursion, count_by, join_with_byte}
use Rattle.std.specs.Option.{option_and_then, option_map, option_map_or, option_or}
use Rattle.std.proofs.Math.Nat.{eq-or-lt_of_le}
use Rattle.std.proofs.lemmas.Bool.{leb-true, eqb-true, and_parts}
use Rattle.std.proofs.lemmas.Bool.Decides.{nat_tests}
use Rattle.std.proofs.lemmas.Option.{same_Some}
use Rattle.std.proofs.lemmas.List.Quantifiers.{position-Some}
use Rattle.std.proofs.lemmas.List.Splits.{length-slice_split, join_with_byte-slice_split}
use Rattle.text80.specs.Digits.{byte_text, word_text}
use Rattle.image80.specs.declared.range.Range.{Range}
use Rattle.image80.specs.Range.{in_range}
use Rattle.image80.specs.Lines.{is_line_feed, parts}
use Rattle.omf_model.specs.declared.symbols.Public.{Public}
use Rattle.image80_text.specs.Names.{is_at, public_at, lies_below, IsNearest, IsNearestIn, IsNearestWithin}
use Rattle.image80_text.specs.NameText.{nearest_from, nearest_of, above_text, name_text, digit_value, pair_value, address_at, instruction_address, address_behind}
use Rattle.image80_text.specs.NameText.{each_line, label_text, labelled_line, named_line, NoPublicsNoNames, PrintedAddressIsNamed, NearestIsGreatest}
use Rattle.image80_text.proofs.NearestLemmas.{lies_at_most, none_found, nearest_exists}

all_so : (P Q : Public → Type 0) → ((x : Public) → P x → Q x) → (xs : List Public) → AllByRecursion P xs → AllByRecursion Q xs
all_so P Q weaker [] all = tt
all_so P Q weaker (x ∷ xs) all = (weaker x all.0, all_so P Q weaker xs all.1)

-- ---- walks down

module _ (range : Range) (address : ℕ) where
  -- where none lies below, none is at an address between the range's first and this one
  off_at : (a : ℕ) (q : Public) → range.first ≤ a → a ≤ address → lies_below range address q ≡ false → is_at a q ≡ false
  off_at a q low high off = grind (arith, nat_tests)

  above_at : (a : ℕ) (p q : Public) → range.first ≤ a → a ≤ address → p.offset < a
      → (lies_below range address q ≡ true → q.offset ≤ p.offset) → is_at a q ≡ false
  above_at a p q low high above most = grind (arith, nat_tests)

  none_at : (publics : List Public) (a : ℕ) → range.first ≤ a → a ≤ address
      → AllByRecursion (λ q. lies_below range address q ≡ false) publics → public_at publics a ≡ None
  none_at publics a low high none =
      none_found (is_at a) publics (all_so _ (λ q. is_at a q ≡ false) (λ q off. off_at a q low high off) publics none)

  none_above : (publics : List Public) (p : Public) (a : ℕ) → range.first ≤ a → a ≤ address → p.offset < a
      → AllByRecursion (λ q. lies_below range address q ≡ true → q.offset ≤ p.offset) publics → public_at publics a ≡ None
  none_above publics p a low high above most =
      none_found (is_at a) publics (all_so _ (λ q. is_at a q ≡ false) (λ q less. above_at a p q low high above less) publics most)

  none_down : (publics : List Public) (down a : ℕ) → range.first + down ≤ a → a ≤ address
      → AllByRecursion (λ q. lies_below range address q ≡ false) publics → nearest_from publics down a ≡ None
  unfolding nearest_from
  none_down publics zero a low high none = none_at publics a (omega arith) high none
  none_down publics (suc down) a low high none =
      ap (λ o. option_or o (nearest_from publics down (a - 1))) (none_at publics a (omega arith) high none)
      ∙ none_down publics down (a - 1) (omega arith) (omega arith) none

  down_to : (publics : List Public) (p : Public) (down a : ℕ) → range.first + down ≤ a → a ≤ address → p.offset ≤ a → a ≤ p.offset + down
      → IsNearest range address publics p → nearest_from publics down a ≡ Some p
  unfolding nearest_from
  down_to publics p zero a low high at most near =
      let same : a ≡ p.offset = omega arith in ap (public_at publics) same ∙ near.first
  down_to publics p (suc down) a low high at most near =
      elim (eq-or-lt_of_le at) as (λ _. option_or (public_at publics a) (nearest_from publics down (a - 1)) ≡ Some p) [
        | inl same ↦ ap (λ o. option_or o (nearest_from publics down (a - 1))) (ap (public_at publics) (sym same) ∙ near.first)
        | inr above ↦
            ap (λ o. option_or o (nearest_from publics down (a - 1)))
            (none_above publics p a (omega arith) high above near.greatest)
            ∙ down_to publics p down (a - 1) (omega arith) (omega arith) (omega arith) (omega arith) near
      ]

  low_of : in_range range address ≡ true → range.first ≤ address
  low_of inside = leb-true range.first address (and_parts (nat_le range.first address) (nat_lt address (range.first + range.length)) inside).0

  first_of_nearest : (p : Public) → lies_below range address p ≡ true → range.first ≤ p.offset
  first_of_nearest p lies = grind (arith, nat_tests)

  pub nearest_in_range : (publics : List Public) (o : Option Public) → in_range range address ≡ true
      → IsNearestIn range address publics o → nearest_from publics (address - range.first) address ≡ o
  nearest_in_range publics None inside none =
      let low : range.first ≤ address = low_of inside in
      none_down publics (address - range.first) address (omega arith) (omega arith) none
  nearest_in_range publics (Some p) inside near =
      let low : range.first ≤ address = low_of inside in
      let first : range.first ≤ p.offset = first_of_nearest p near.lies in
      let most : p.offset ≤ address = lies_at_most range address p near.lies in
      down_to publics p (address - range.first) address (omega arith) (omega arith) most (omega arith) near

-- what is found passes the test
pub found_passes : {A : Type 0} (test : A → Bool) (xs : List A) (found : A) → find test xs ≡ Some found → test found ≡ true
found_passes test [] found e = absurd cc
found_passes test (x ∷ xs) found e =
    elim (test x) as (λ b. test x ≡ b → cond b (Some x) (find test xs) ≡ Some found → test found ≡ true) [
      | true ↦ λ passes is. ap test (sym (same_Some x found is)) ∙ passes
      | false ↦ λ fails is. found_passes test xs found is
    ] refl e

-- the nearest public of the code is the greatest in its range
greatest_in : (publics : List Public) (address : ℕ) (r : Option Range)
    → ((range : Range) → r ≡ Some range → in_range range address ≡ true)
    → IsNearestWithin r address publics (option_and_then (λ range. nearest_from publics (address - range.first) address) r)
greatest_in publics address None inside = refl
greatest_in publics address (Some range) inside =
    let nearest = nearest_exists range address publics in
    subst (λ (o : Option Public). IsNearestIn range address publics o)
    (sym (nearest_in_range range address publics nearest.0 (inside range refl) nearest.1)) nearest.1

pub nearest_is_greatest : NearestIsGreatest
nearest_is_greatest code publics address =
    greatest_in publics address (find (λ range. in_range range address) code)
    (λ range e. found_passes (λ range. in_range range address) code range e)

-- the name of an address whose nearest public is known
pub named_above : (code : List Range) (publics : List Public) (address : ℕ) (p : Public) (distance : ℕ)
    → nearest_of code publics address ≡ Some p → distance ≡ address - p.offset
    → above_text distance p ≡ name_text code publics address
named_above code publics address p distance is far =
    ap (λ d. above_text d p) far
    ∙ ap (λ (o : Option Public). option_map_or (λ p. above_text (address - p.offset) p) o []) (sym is)

pub not_named : (code : List Range) (publics : List Public) (address : ℕ) → nearest_of code publics address ≡ None
    → name_text code publics address ≡ []
not_named code publics address is =
    ap (λ (o : Option Public). option_map_or (λ p. above_text (address - p.offset) p) o []) is

-- ---- lines

each_cons : (shown : List ℕ → List ℕ) (line : List ℕ) (lines : List (List ℕ)) → 0 < length lines
    → each_line shown (line ∷ lines) ≡ shown line ++ 10 ∷ each_line shown lines
each_cons shown line [] some = absurd (omega (arith, some))
each_cons shown line (next ∷ lines) some = refl

pub each_more : (shown : List ℕ → List ℕ) (line after : List ℕ)
    → each_line shown (line ∷ parts after) ≡ shown line ++ 10 ∷ each_line shown (parts after)
each_more shown line after =
    let counted : length (parts after) ≡ count_by is_line_feed after + 1 = length-slice_split is_line_feed after in
    each_cons shown line (parts after) (omega arith)

-- a line more that was read
pub line_read : (shown : List ℕ → List ℕ) (so_far line after rest whole : List ℕ) → parts rest ≡ line ∷ parts after
    → so_far ++ each_line shown (parts rest) ≡ whole
    → ((so_far ++ shown line) ++ 10 ∷ []) ++ each_line shown (parts after) ≡ whole
line_read shown so_far line after rest whole is before =
    append_assoc (so_far ++ shown line) (10 ∷ []) (each_line shown (parts after))
    ∙ append_assoc so_far (shown line) (10 ∷ each_line shown (parts after))
    ∙ ap (λ t. so_far ++ t) (sym (each_more shown line after))
    ∙ ap (λ ps. so_far ++ each_line shown ps) (sym is)
    ∙ before

-- lines that stay as they are
pub each_same : (shown : List ℕ → List ℕ) → ((line : List ℕ) → shown line ≡ line) → (lines : List (List ℕ))
    → each_line shown lines ≡ join_with_byte 10 lines
each_same shown same [] = refl
each_same shown same (last ∷ []) = refl
each_same shown same (line ∷ next ∷ lines) =
    ap (λ t. t ++ 10 ∷ each_line shown (next ∷ lines)) (same line) ∙ ap (λ t. line ++ 10 ∷ t) (each_same shown same (next ∷ lines))

-- a text whose lines stay as they are
text_same : (shown : List ℕ → List ℕ) → ((line : List ℕ) → shown line ≡ line) → (text : List ℕ) → each_line shown (parts text) ≡ text
text_same shown same text = each_same shown same (parts text) ∙ join_with_byte-slice_split 10 text

-- ---- no publics

no_label : (o : Option ℕ) → option_map_or (label_text []) o [] ≡ []
no_label None = refl
no_label (Some address) = refl

pub none_from : (down address : ℕ) → nearest_from [] down address ≡ None
unfolding nearest_from
none_from zero address = refl
none_from (suc down) address = none_from down (address - 1)

none_within : (r : Option Range) (address : ℕ)
    → option_and_then (λ range. nearest_from [] (address - range.first) address) r ≡ None
none_within None address = refl
none_within (Some range) address = none_from (address - range.first) address

no_name : (code : List Range) (o : Option ℕ) → option_map_or (name_text code []) o [] ≡ []
no_name code None = refl
no_name code (Some address) =
    ap (λ (p : Option Public). option_map_or (λ p. above_text (address - p.offset) p) p [])
    (none_within (find (λ range. in_range range address) code) address)

pub no_publics_no_names : NoPublicsNoNames
no_publics_no_names text = (
  λ numbered. text_same (labelled_line [] numbered)
      (λ line. ap (λ t. t ++ line) (no_label (instruction_address numbered line))) text,
  λ code word. text_same (named_line code [] word)
      (λ line. ap (λ t. line ++ t) (no_name code (address_behind word line)) ∙ append-nil line) text,
)

-- ---- printed addresses

abbrev all_below : (ℕ → Type 0) → ℕ → Type 0
all_below P zero = Unit {0}
all_below P (suc n) = all_below P n × P n

one_below : (P : ℕ → Type 0) (count n : ℕ) → n < count → all_below P count → P n
one_below P zero n below all = absurd (omega (arith, below))
one_below P (suc count) n below all =
    elim (eq-or-lt_of_le below) as (λ _. P n) [
      | inl same ↦ subst P (sym (suc_same same)) all.1
      | inr less ↦ one_below P count n (omega (arith, less)) all.0
    ]
  where
    suc_same : suc n ≡ suc count → n ≡ count
    suc_same e = omega arith

digit_read : (n : ℕ) → n < 16 → digit_value (slice_index (codes "0123456789ABCDEF") n) ≡ Some n
digit_read n below =
    one_below (λ n. digit_value (slice_index (codes "0123456789ABCDEF") n) ≡ Some n) 16 n below
    ((((((((((((((((tt, refl), refl), refl), refl), refl), refl), refl), refl), refl), refl), refl), refl), refl), refl), refl), refl)

pair_read : (byte : ℕ) → byte < 256
    → pair_value (slice_index (codes "0123456789ABCDEF") (byte / 16)) (slice_index (codes "0123456789ABCDEF") (byte % 16)) ≡ Some byte
pair_read byte below =
    ap (λ (h : Option ℕ). option_and_then (λ h. option_map (λ l. h * 16 + l)
    (digit_value (slice_index (codes "0123456789ABCDEF") (byte % 16)))) h) (digit_read (byte / 16) (omega arith))
    ∙ ap (λ (l : Option ℕ). option_map (λ l. byte / 16 * 16 + l) l) (digit_read (byte % 16) (omega arith))
    ∙ ap Some (whole byte)
  where
    whole : (n : ℕ) → n / 16 * 16 + n % 16 ≡ n
    whole n = omega arith

pub printed_address_is_named : PrintedAddressIsNamed
printed_address_is_named address rest below =
    ap (λ (h : Option ℕ). option_and_then (λ h. option_map (λ l. h * 256 + l)
    (pair_value (slice_index (codes "0123456789ABCDEF") (address % 256 / 16)) (slice_index (codes "0123456789ABCDEF") (address % 256 % 16)))) h)
    (pair_read (address / 256) (omega arith))
    ∙ ap (λ (l : Option ℕ). option_map (λ l. address / 256 * 256 + l) l) (pair_read (address % 256) (omega arith))
    ∙ ap Some (whole address)
  where
    whole : (n : ℕ) → n / 256 * 256 + n % 256 ≡ n
    whole n = omega arith

-- ---- addresses that are read

-- two numbers that are read, as one
both_read : (base : ℕ) (high low : Option ℕ) (n : ℕ) → option_and_then (λ h. option_map (λ l. h * base + l) low) high ≡ Some n
    → (h : ℕ) × (l : ℕ) × (high ≡ Some h) × (low ≡ Some l) × (h * base + l ≡ n)
both_read base None low n e = absurd cc
both_read base (Some h) None n e = absurd cc
both_read base (Some h) (Some l) n e = (h, l, refl, refl, same (h * base + l) n e)
  where
    same : (x y : ℕ) → Some x ≡ Some y → x ≡ y
    same x y e = cc

digit_shown : (byte n : ℕ) → digit_value byte ≡ Some n → (n < 16) × (slice_index (codes "0123456789ABCDEF") n ≡ byte)
digit_shown byte n e =
    let found : (n < 16) × ((slice_index (codes "0123456789ABCDEF") n == byte) ≡ true)
    × ((k : ℕ) → k < n → (slice_index (codes "0123456789ABCDEF") k == byte) ≡ false) =
    position-Some (λ digit. digit == byte) (codes "0123456789ABCDEF") n 0 e in
    (found.0, eqb-true (slice_index (codes "0123456789ABCDEF") n) byte found.1)

pair_shown : (high low n : ℕ) → pair_value high low ≡ Some n → (n < 256) × (byte_text n ≡ high ∷ low ∷ [])
pair_shown high low n e =
    let read : (h : ℕ) × (l : ℕ) × (digit_value high ≡ Some h) × (digit_value low ≡ Some l) × (h * 16 + l ≡ n) =
    both_read 16 (digit_value high) (digit_value low) n e in
    let h = digit_shown high read.0 read.2 in
    let l = digit_shown low read.1 read.3 in
    let first : n / 16 ≡ read.0 = omega (arith, read.4, l.0) in
    let second : n % 16 ≡ read.1 = omega (arith, read.4, l.0) in (
      omega (arith, read.4, h.0, l.0),
      ap (λ k. slice_index (codes "0123456789ABCDEF") k ∷ slice_index (codes "0123456789ABCDEF") (n % 16) ∷ []) first
          ∙ ap (λ k. slice_index (codes "0123456789ABCDEF") read.0 ∷ slice_index (codes "0123456789ABCDEF") k ∷ []) second
          ∙ ap (λ byte. byte ∷ slice_index (codes "0123456789ABCDEF") read.1 ∷ []) h.1
          ∙ ap (λ byte. high ∷ byte ∷ []) l.1,
    )

word_shown : (a b c d n : ℕ) → option_and_then (λ h. option_map (λ l. h * 256 + l) (pair_value c d)) (pair_value a b) ≡ Some n
    → (n < 65536) × (a ∷ b ∷ c ∷ d ∷ [] ≡ word_text n)
word_shown a b c d n e =
    let read : (h : ℕ) × (l : ℕ) × (pair_value a b ≡ Some h) × (pair_value c d ≡ Some l) × (h * 256 + l ≡ n) =
    both_read 256 (pair_value a b) (pair_value c d) n e in
    let h = pair_shown a b read.0 read.2 in
    let l = pair_shown c d read.1 read.3 in
    let first : n / 256 ≡ read.0 = omega (arith, read.4, l.0) in
    let second : n % 256 ≡ read.1 = omega (arith, read.4, l.0) in (
      omega (arith, read.4, h.0, l.0),
      ap (λ t. t ++ c ∷ d ∷ []) (sym h.1)
          ∙ ap (λ t. byte_text read.0 ++ t) (sym l.1)
          ∙ ap (λ k. byte_text k ++ byte_text read.1) (sym first)
          ∙ ap (λ k. byte_text (n / 256) ++ byte_text k) (sym second),
    )

-- the word of four digits is the address
pub word_is_address : (a b c d : ℕ) (rest : List ℕ) (word : Option ℕ)
    → IfSome word (λ n. a ∷ b ∷ c ∷ d ∷ [] ≡ word_text n) → IfSome word (λ n. n < 65536)
    → IfNone word ((n : ℕ) → n < 65536 → (a ∷ b ∷ c ∷ d ∷ [] ≡ word_text n) → ⊥)
    → word ≡ address_at (a ∷ b ∷ c ∷ d ∷ rest)
word_is_address a b c d rest (Some n) is below none =
    sym (ap (λ t. address_at (t ++ rest)) is ∙ printed_address_is_named n rest below)
word_is_address a b c d rest None is below none =
    elim (address_at (a ∷ b ∷ c ∷ d ∷ rest)) as (λ (o : Option ℕ). address_at (a ∷ b ∷ c ∷ d ∷ rest) ≡ o → None ≡ o) [
      | None ↦ λ _. refl
      | Some n ↦ λ read. let shown = word_shown a b c d n read in absurd (none n shown.0 shown.1)
    ] refl

-- so it is in a text that begins with them
pub word_at : (text : List ℕ) (word : Option ℕ) → 4 ≤ length text
    → IfSome word (λ n. slice_index text 0 ∷ slice_index text 1 ∷ slice_index text 2 ∷ slice_index text 3 ∷ [] ≡ word_text n)
    → IfSome word (λ n. n < 65536)
    → IfNone word ((n : ℕ) → n < 65536
    → (slice_index text 0 ∷ slice_index text 1 ∷ slice_index text 2 ∷ slice_index text 3 ∷ [] ≡ word_text n) → ⊥)
    → word ≡ address_at text
word_at [] word long is below none = absurd (omega (arith, long))
word_at (a ∷ []) word long is below none = absurd (omega (arith, long))
word_at (a ∷ b ∷ []) word long is below none = absurd (omega (arith, long))
word_at (a ∷ b ∷ c ∷ []) word long is below none = absurd (omega (arith, long))
word_at (a ∷ b ∷ c ∷ d ∷ rest) word long is below none = word_is_address a b c d rest word is below none
