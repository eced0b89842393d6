-- What the tables of publics have for each address.
use Rattle.std.specs.Prelude.{◌≡◌, ℕ, zero, suc, ◌+◌, ◌-◌, ◌<◌, ◌≤◌, ◌⊎◌, ◌==◌, Bool, true, false, ◌&&◌, nat_le, nat_lt, is_none, if◌then◌else◌}
use Rattle.std.specs.Prelude.{Option, Some, None, List, [], ◌∷◌, ◌++◌, length, drop, find, position, slice_get, slice_set, replicate, refl}
use Rattle.std.specs.List.{position_or_len}
use Rattle.std.specs.Option.{option_and_then, option_or}
use Rattle.std.proofs.Common.{◌∙◌, ap, sym, subst, arith, cond, inl, inr}
use Rattle.std.proofs.lemmas.Bool.{and_parts, eqb-true, eqb-false, eq-eqb, ne_eqb, lt-ltb, le-ltb, le-leb, lt-leb, leb-true, cases_lt}
use Rattle.std.proofs.lemmas.List.{length_push, length-set, get_or-set_same, get_or-set_other, get_or-replicate}
use Rattle.std.proofs.lemmas.List.Folds.{find_at, position_or_len_push}
use Rattle.std.proofs.lemmas.List.Sums.{prefix_len-le-length}
use Rattle.std.proofs.lemmas.Option.{slice_get_cases, slice_get_past}
use Rattle.image80.specs.declared.range.Range.{Range}
use Rattle.image80.specs.Range.{in_range}
use Rattle.omf_model.specs.declared.symbols.Public.{Public}
use Rattle.image80_text.specs.Names.{is_at, public_at}
use Rattle.image80_text.specs.NameText.{nearest_from, nearest_of}
use Rattle.image80_text.specs.Tables.{entry_at, public_with, noted, filled_from, not_below, nearest_within, AreFirst, AreNearest}
use Rattle.image80_text.proofs.TextLemmas.{found_passes, none_from}

-- ---- the number of the first that passes

module _ (test : Public → Bool) where
  position_is : (xs : List Public) (k : ℕ) → position_or_len test xs ≡ k → k < length xs → position test xs ≡ Some k
  position_is xs k e below =
      ap (λ (n : ℕ). cond (nat_lt n (length xs)) (Some n) None) e
      ∙ ap (λ (b : Bool). cond b (Some k) None) (lt-ltb k (length xs) below)

  position_none : (xs : List Public) (k : ℕ) → position_or_len test xs ≡ k → length xs ≤ k → position test xs ≡ None
  position_none xs k e past =
      ap (λ (n : ℕ). cond (nat_lt n (length xs)) (Some n) None) e
      ∙ ap (λ (b : Bool). cond b (Some k) None) (le-ltb k (length xs) past)

  -- the first that passes, by its number
  pub found_by_position : (xs : List Public) → public_with xs (position test xs) ≡ find test xs
  found_by_position xs =
      elim (cases_lt (position_or_len test xs) (length xs)) [
        | inl below ↦ ap (public_with xs) (position_is xs (position_or_len test xs) refl below) ∙ sym (find_at test xs)
        | inr past ↦
            ap (public_with xs) (position_none xs (position_or_len test xs) refl past)
            ∙ sym (find_at test xs ∙ slice_get_past xs (position_or_len test xs) past)
      ]

  -- one more
  position_more : (xs : List Public) (y : Public)
      → position test (xs ++ y ∷ []) ≡ option_or (position test xs) (if test y then Some (length xs) else None)
  position_more xs y =
      let k : ℕ = position_or_len test xs in
      let n : ℕ = length xs in
      let long : length (xs ++ y ∷ []) ≡ n + 1 = length_push xs y in
      let most : k ≤ n = prefix_len-le-length _ xs in
      elim (cases_lt k n) [
        | inl below ↦
            position_is (xs ++ y ∷ []) k
            (position_or_len_push test xs y
            ∙ ap (λ (b : Bool). cond b (n + cond (test y) 0 1) k) (ne_eqb k n (λ e. omega (arith, below, e)))) (omega (arith, below, long))
            ∙ ap (λ (o : Option ℕ). option_or o (if test y then Some n else None)) (sym (position_is xs k refl below))
        | inr past ↦
            let all : k ≡ n = omega (arith, most, past) in
            let pushed : position_or_len test (xs ++ y ∷ []) ≡ n + cond (test y) 0 1 =
            position_or_len_push test xs y ∙ ap (λ (b : Bool). cond b (n + cond (test y) 0 1) k) (eq-eqb k n all) in
            last xs y (test y) pushed
            ∙ ap (λ (o : Option ℕ). option_or o (if test y then Some n else None)) (sym (position_none xs k refl past))
      ]
    where
      last : (xs : List Public) (y : Public) (passes : Bool) → position_or_len test (xs ++ y ∷ []) ≡ length xs + cond passes 0 1
          → position test (xs ++ y ∷ []) ≡ (if passes then Some (length xs) else None)
      last xs y true e =
          let long : length (xs ++ y ∷ []) ≡ length xs + 1 = length_push xs y in
          position_is (xs ++ y ∷ []) (length xs) (omega (arith, e)) (omega (arith, long))
      last xs y false e =
          let long : length (xs ++ y ∷ []) ≡ length xs + 1 = length_push xs y in
          position_none (xs ++ y ∷ []) (length xs + 1) e (omega (arith, long))

  -- the first that passes, or else another one
  public_or : (xs : List Public) (other : Option ℕ)
      → public_with xs (option_or (position test xs) other) ≡ option_or (find test xs) (public_with xs other)
  public_or xs other =
      let k : ℕ = position_or_len test xs in
      elim (cases_lt k (length xs)) [
        | inl below ↦
            ap (λ (o : Option ℕ). public_with xs (option_or o other)) (position_is xs k refl below)
            ∙ there (slice_get xs k) (slice_get_cases xs k).1 below
            ∙ ap (λ (o : Option Public). option_or o (public_with xs other)) (sym (find_at test xs))
        | inr past ↦
            ap (λ (o : Option ℕ). public_with xs (option_or o other)) (position_none xs k refl past)
            ∙ ap (λ (o : Option Public). option_or o (public_with xs other)) (sym (find_at test xs ∙ slice_get_past xs k past))
      ]
    where
      there : {P : Public → Type 0} {n : ℕ} (o : Option Public) → ((x : Public) × (n < length xs) × (o ≡ Some x) × P x) ⊎ ((length xs ≤ n) × (o ≡ None))
          → n < length xs → o ≡ option_or o (public_with xs other)
      there o (inl found) below = found.2 ∙ ap (λ (p : Option Public). option_or p (public_with xs other)) (sym found.2)
      there o (inr past) below = absurd (omega (arith, below, past.0))

-- ---- the first public at each address

or_none : {A : Type 0} (o : Option A) → o ≡ option_or o None
or_none None = refl
or_none (Some x) = refl

-- what is noted of a public, at its address and at another one
noted_at : (table : List (Option ℕ)) (p : Public) (number address : ℕ) → p.offset < length table
    → entry_at (noted table p number) address ≡ option_or (entry_at table address) (if is_at address p then Some number else None)
noted_at table p number address within = by_segment (p.segment == 0)
  where
    free : (here : Option ℕ) → entry_at table p.offset ≡ here → (same : Bool) → (p.offset == address) ≡ same
        → entry_at (if is_none here then slice_set table p.offset (Some number) else table) address
        ≡ option_or (entry_at table address) (if same then Some number else None)
    free None is true same =
        let at : p.offset ≡ address = eqb-true p.offset address same in
        subst (λ (a : ℕ). entry_at (slice_set table p.offset (Some number)) a ≡ option_or (entry_at table a) (Some number)) at
        (get_or-set_same table p.offset (Some number) None within ∙ ap (λ (o : Option ℕ). option_or o (Some number)) (sym is))
    free (Some earlier) is true same =
        let at : p.offset ≡ address = eqb-true p.offset address same in
        subst (λ (a : ℕ). entry_at table a ≡ option_or (entry_at table a) (Some number)) at
        (is ∙ ap (λ (o : Option ℕ). option_or o (Some number)) (sym is))
    free None is false same =
        get_or-set_other table p.offset address (Some number) None (λ e. eqb-false p.offset address same (sym e))
        ∙ or_none (entry_at table address)
    free (Some earlier) is false same = or_none (entry_at table address)

    by_segment : (absolute : Bool)
        → entry_at (if absolute && is_none (entry_at table p.offset) then slice_set table p.offset (Some number) else table) address
        ≡ option_or (entry_at table address) (if absolute && p.offset == address then Some number else None)
    by_segment true = free (entry_at table p.offset) refl (p.offset == address) refl
    by_segment false = or_none (entry_at table address)

pub length-noted : (table : List (Option ℕ)) (p : Public) (number : ℕ) → length (noted table p number) ≡ length table
length-noted table p number = go (p.segment == 0 && is_none (entry_at table p.offset))
  where
    go : (b : Bool) → length (if b then slice_set table p.offset (Some number) else table) ≡ length table
    go true = length-set table p.offset (Some number)
    go false = refl

pub first_none : (table : List (Option ℕ)) → table ≡ replicate 65536 None → AreFirst [] table
first_none table none address below =
    ap (λ (l : List (Option ℕ)). entry_at l address) none ∙ get_or-replicate 65536 address None None below

-- one public more
pub first_more : (seen : List Public) (p : Public) (table : List (Option ℕ)) (number : ℕ) → AreFirst seen table → number ≡ length seen
    → p.offset < length table → AreFirst (seen ++ p ∷ []) (noted table p number)
first_more seen p table number first counted within address below =
    noted_at table p number address within
    ∙ ap (λ (n : ℕ). option_or (entry_at table address) (if is_at address p then Some n else None)) counted
    ∙ ap (λ (o : Option ℕ). option_or o (if is_at address p then Some (length seen) else None)) (first address below)
    ∙ sym (position_more (is_at address) seen p)

-- ---- the nearest public at or below each address

-- one entry more
pub filled_more : (last : Option ℕ) (entry : Option ℕ) (entries : List (Option ℕ))
    → filled_from last (entry ∷ entries) ≡ option_or entry last ∷ filled_from (option_or entry last) entries
unfolding filled_from
filled_more last entry entries = refl

pub drop_past : {A : Type 0} (xs : List A) (i : ℕ) → length xs ≤ i → drop i xs ≡ []
drop_past [] zero past = refl
drop_past [] (suc i) past = refl
drop_past (x ∷ xs) zero past = absurd (omega (arith, past))
drop_past (x ∷ xs) (suc i) past = drop_past xs i (omega (arith, past))

pub filled_none : (last : Option ℕ) → filled_from last [] ≡ []
unfolding filled_from
filled_none last = refl

pub length-filled : (last : Option ℕ) (entries : List (Option ℕ)) → length (filled_from last entries) ≡ length entries
unfolding filled_from
length-filled last [] = refl
length-filled last (entry ∷ entries) = ap suc (length-filled (option_or entry last) entries)

filled_first : (entries : List (Option ℕ)) → entry_at (filled_from None entries) 0 ≡ entry_at entries 0
unfolding filled_from
filled_first [] = refl
filled_first (entry ∷ entries) = sym (or_none entry)

filled_next : (last : Option ℕ) (entries : List (Option ℕ)) (k : ℕ) → suc k < length entries
    → entry_at (filled_from last entries) (suc k) ≡ option_or (entry_at entries (suc k)) (entry_at (filled_from last entries) k)
unfolding filled_from
filled_next last [] k within = absurd (omega (arith, within))
filled_next last (entry ∷ []) k within = absurd (omega (arith, within))
filled_next last (entry ∷ next ∷ entries) zero within = refl
filled_next last (entry ∷ next ∷ entries) (suc k) within = filled_next (option_or entry last) (next ∷ entries) k (omega (arith, within))

pub nearest_filled : (publics : List Public) (first : List (Option ℕ)) → AreFirst publics first → length first ≡ 65536
    → AreNearest publics (filled_from None first)
unfolding nearest_from
nearest_filled publics first is long zero below =
    ap (public_with publics) (filled_first first ∙ is 0 below) ∙ found_by_position (is_at 0) publics
nearest_filled publics first is long (suc a) below =
    let before : a ≡ suc a - 1 = omega arith in
    ap (public_with publics) (filled_next None first a (omega (arith, below, long)))
    ∙ ap (λ (o : Option ℕ). public_with publics (option_or o (entry_at (filled_from None first) a))) (is (suc a) below)
    ∙ public_or (is_at (suc a)) publics (entry_at (filled_from None first) a)
    ∙ ap (λ (o : Option Public). option_or (public_at publics (suc a)) o) (nearest_filled publics first is long a (omega (arith, below)))
    ∙ ap (λ (b : ℕ). option_or (public_at publics (suc a)) (nearest_from publics a b)) before

-- ---- no publics

pub first_of_none : AreFirst [] []
first_of_none address below = refl

pub nearest_of_none : AreNearest [] []
nearest_of_none address below = sym (none_from address address)

-- ---- what is looked up

-- the public at an address is there
at_offset : (publics : List Public) (address : ℕ) (p : Public) → public_at publics address ≡ Some p → p.offset ≡ address
at_offset publics address p e =
    eqb-true p.offset address (and_parts (p.segment == 0) (p.offset == address) (found_passes (is_at address) publics p e)).1

-- the nearest public isn't above the address
pub nearest_at_most : (publics : List Public) (down address : ℕ) (p : Public) → nearest_from publics down address ≡ Some p → p.offset ≤ address
unfolding nearest_from
nearest_at_most publics zero address p e = omega (arith, at_offset publics address p e)
nearest_at_most publics (suc down) address p e =
    go (nearest_at_most publics down (address - 1) p) (public_at publics address) refl e
  where
    go : (nearest_from publics down (address - 1) ≡ Some p → p.offset ≤ address - 1) → (o : Option Public) → public_at publics address ≡ o
        → option_or o (nearest_from publics down (address - 1)) ≡ Some p → p.offset ≤ address
    go below None is e = omega (arith, below e)
    go below (Some q) is e = omega (arith, at_offset publics address p (is ∙ e))

stays : (first : ℕ) (p : Public) → first ≤ p.offset → Some p ≡ not_below first (Some p)
stays first p le = ap (λ (b : Bool). if b then Some p else None) (sym (le-leb first p.offset le))

goes : (first : ℕ) (o : Option Public) → ((p : Public) → o ≡ Some p → p.offset < first) → None ≡ not_below first o
goes first None below = refl
goes first (Some p) below = ap (λ (b : Bool). if b then Some p else None) (sym (lt-leb first p.offset (below p refl)))

-- the walk down to an address is the walk down to 0, if that ends above
cut : (publics : List Public) (down address : ℕ) → down ≤ address
    → nearest_from publics down address ≡ not_below (address - down) (nearest_from publics address address)
unfolding nearest_from
cut publics zero zero within = go (public_at publics 0)
  where
    go : (o : Option Public) → o ≡ not_below (0 - 0) o
    go None = refl
    go (Some p) = stays (0 - 0) p (omega arith)
cut publics zero (suc a) within = go (public_at publics (suc a)) refl
  where
    go : (o : Option Public) → public_at publics (suc a) ≡ o → o ≡ not_below (suc a - 0) (option_or o (nearest_from publics a (suc a - 1)))
    go None is =
        goes (suc a - 0) (nearest_from publics a (suc a - 1)) (λ p e. omega (arith, nearest_at_most publics a (suc a - 1) p e))
    go (Some p) is = stays (suc a - 0) p (omega (arith, at_offset publics (suc a) p is))
cut publics (suc down) zero within = absurd (omega (arith, within))
cut publics (suc down) (suc a) within = go (cut publics down a (omega (arith, within))) (public_at publics (suc a)) refl
  where
    go : nearest_from publics down a ≡ not_below (a - down) (nearest_from publics a a) → (o : Option Public) → public_at publics (suc a) ≡ o
        → option_or o (nearest_from publics down (suc a - 1)) ≡ not_below (suc a - suc down) (option_or o (nearest_from publics a (suc a - 1)))
    go before None is =
        let one : a ≡ suc a - 1 = omega arith in
        let less : a - down ≡ suc a - suc down = omega arith in
        subst (λ (b : ℕ). nearest_from publics down b ≡ not_below (suc a - suc down) (nearest_from publics a b)) one
        (subst (λ (first : ℕ). nearest_from publics down a ≡ not_below first (nearest_from publics a a)) less before)
    go before (Some p) is = stays (suc a - suc down) p (omega (arith, at_offset publics (suc a) p is))

within_is : (publics : List Public) (address : ℕ) (o : Option Range)
    → ((range : Range) → o ≡ Some range → in_range range address ≡ true)
    → nearest_within publics o address ≡ option_and_then (λ range. nearest_from publics (address - range.first) address) o
within_is publics address None inside = refl
within_is publics address (Some range) inside =
    let low : range.first ≤ address =
    leb-true range.first address (and_parts (nat_le range.first address) (nat_lt address (range.first + range.length)) (inside range refl)).0 in
    let first : address - (address - range.first) ≡ range.first = omega (arith, low) in
    sym (cut publics (address - range.first) address (omega arith)
    ∙ ap (λ (f : ℕ). not_below f (nearest_from publics address address)) first)

-- the nearest public of the range that has the address is that of the code
pub within_code : (code : List Range) (publics : List Public) (address : ℕ) (o : Option Range) → o ≡ find (λ range. in_range range address) code
    → nearest_within publics o address ≡ nearest_of code publics address
within_code code publics address o found =
    ap (λ (r : Option Range). nearest_within publics r address) found
    ∙ within_is publics address (find (λ range. in_range range address) code)
    (λ range e. found_passes (λ range. in_range range address) code range e)
