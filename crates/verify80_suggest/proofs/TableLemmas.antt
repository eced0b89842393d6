-- What is found to be code is code with all bytes as code.
use Rattle.std.proofs.Common.{◌≡◌, ◌<◌, ◌≤◌, ◌+◌, ◌-◌, ℕ, Bool, true, false, true≢false, List, get_or, refl, sym, ◌∙◌, subst, arith, inl, inr}
use Rattle.std.specs.Prelude.{◌&&◌, ◌||◌, not, nat_le}
use Rattle.std.proofs.lemmas.Bool.{cases_eq}
use Rattle.std.proofs.lemmas.Bool.Decides.{nat_tests}
use Rattle.std.proofs.lemmas.List.{get_or_append_left, length-append}
use Rattle.std.proofs.Math.Seq.{get_or-append_seam}
use Rattle.std.specs.Prelude.{[], ◌∷◌, ◌++◌, length}
use Rattle.std.proofs.Common.{ap}
use Rattle.image80.specs.declared.range.Range.{Range}
use Rattle.image80.specs.Image.{Located, memory_of}
use Rattle.image80.specs.Range.{in_ranges}
use Rattle.image80.specs.Regions.{in_code}
use Rattle.verify80_cases.specs.Covered.{is_covered}
use Rattle.verify80_cases.specs.Marks.{marked}
use Rattle.verify80_cases.specs.Suggested.{is_free, word_in, word_place}
use Rattle.verify80_cases.specs.declared.table.KeyOrder.{KeyOrder}
use Rattle.verify80_cases.specs.declared.table.KeyOrder.TheVariants.{KeyFirst, KeyLast}
use Rattle.verify80_suggest.specs.Suggestion.{Found, IsFound}
use Rattle.verify80_suggest.specs.Tables.{AreEntriesBelow, AreKeyedBelow, AreTables, AreWordsBelow, begins_keyed, has_entry, in_keyed, in_word, may_be_keyed, may_be_word}
use Rattle.verify80_suggest.proofs.CodeLemmas.{covered_code}

both : (a b : Bool) → (a && b) ≡ true → (a ≡ true) × (b ≡ true)
both true b e = (refl, e)
both false b e = absurd (true≢false (sym e))

or_left : (a b : Bool) → a ≡ true → (a || b) ≡ true
or_left true b e = refl
or_left false b e = absurd (true≢false (sym e))

-- what is free is code
free_code : (image : Located) (covered : List Bool) (address : ℕ) → is_free image covered address ≡ true → in_code image.regions address ≡ true
free_code image covered address free = (both (in_code image.regions address) (not (marked covered address)) free).0

-- both bytes of a word are code
word_code : (image : Located) (covered loaded goals words : List Bool) → AreWordsBelow image covered loaded goals 65536 words →
    (address : ℕ) → address < 65536 → marked words address ≡ true → (in_code image.regions address ≡ true) × (in_code image.regions (address + 1) ≡ true)
word_code image covered loaded goals words are address low is =
    let may = (both (marked loaded address || (nat_le 2 address && marked words (address - 2))) (may_be_word image covered goals address) (sym (are.exact address low) ∙ is)).1 in
    let goal : Bool = marked goals (word_in (memory_of image.chunks) address) in
    let inside = (both (nat_le (address + 2) 65536) (is_free image covered address && (is_free image covered (address + 1) && goal)) may).1 in
    let free = both (is_free image covered address) (is_free image covered (address + 1) && goal) inside in
    let next = both (is_free image covered (address + 1)) goal free.1 in
    (free_code image covered address free.0, free_code image covered (address + 1) next.0)

-- the three bytes of an entry with a key are code
keyed_code : (image : Located) (order : KeyOrder) (covered loaded goals marks : List Bool) → AreKeyedBelow image order covered loaded goals 65536 marks →
    (address : ℕ) → address < 65536 → marked marks address ≡ true →
    (in_code image.regions address ≡ true) × ((in_code image.regions (address + 1) ≡ true) × (in_code image.regions (address + 2) ≡ true))
keyed_code image order covered loaded goals marks are address low is =
    let may = (both (begins_keyed image order covered loaded goals address || (nat_le 3 address && marked marks (address - 3))) (may_be_keyed image order covered goals address)
    (sym (are.exact address low) ∙ is)).1 in
    let goal : Bool = marked goals (word_in (memory_of image.chunks) (word_place order address)) in
    let three : Bool = is_free image covered address && (is_free image covered (address + 1) && is_free image covered (address + 2)) in
    let inside = (both three goal (both (nat_le (address + 3) 65536) (three && goal) may).1).0 in
    let free = both (is_free image covered address) (is_free image covered (address + 1) && is_free image covered (address + 2)) inside in
    let next = both (is_free image covered (address + 1)) (is_free image covered (address + 2)) free.1 in
    (free_code image covered address free.0, (free_code image covered (address + 1) next.0, free_code image covered (address + 2) next.1))

-- what holds of the bytes of each word, or of each entry, holds of each address in one
module _ (code : ℕ → Bool) (marks : List Bool) where
  word_inside : ((at : ℕ) → at < 65536 → marked marks at ≡ true → (code at ≡ true) × (code (at + 1) ≡ true)) →
      (address : ℕ) → address < 65536 → in_word marks address ≡ true → code address ≡ true
  word_inside each address low here = step (marked marks address) (nat_le 1 address) refl refl here
    where
      step : (a b : Bool) → marked marks address ≡ a → nat_le 1 address ≡ b → (a || (b && marked marks (address - 1))) ≡ true → code address ≡ true
      step true b i j e = (each address low i).0
      step false false i j e = absurd (true≢false (sym e))
      step false true i j e =
          let some : 1 ≤ address = grind (arith, nat_tests) in
          subst (λ a. code a ≡ true) (omega (arith, some)) (each (address - 1) (omega (arith, low)) e).1

  keyed_inside : ((at : ℕ) → at < 65536 → marked marks at ≡ true → (code at ≡ true) × ((code (at + 1) ≡ true) × (code (at + 2) ≡ true))) →
      (address : ℕ) → address < 65536 → in_keyed marks address ≡ true → code address ≡ true
  keyed_inside each address low here = step (in_word marks address) (nat_le 2 address) refl refl here
    where
      step : (a b : Bool) → in_word marks address ≡ a → nat_le 2 address ≡ b → (a || (b && marked marks (address - 2))) ≡ true → code address ≡ true
      step true b i j e = word_inside (λ at less is. ((each at less is).0, (each at less is).1.0)) address low i
      step false false i j e = absurd (true≢false (sym e))
      step false true i j e =
          let some : 2 ≤ address = grind (arith, nat_tests) in
          subst (λ a. code a ≡ true) (omega (arith, some)) (each (address - 2) (omega (arith, low)) e).1.1

module _ (image : Located) (entries : List ℕ) (ram : List Range) (found : Found) (is : IsFound image entries ram found) where
  table_code : (address : ℕ) → address < 65536 → marked is.tables address ≡ true → in_code image.regions address ≡ true
  table_code address low here = step (in_word t.words address) (in_keyed t.firsts address) refl refl (sym (t.are_tables.exact address low) ∙ here)
    where
      t : AreTables image found.reached is.covered is.tables
      t = is.are_tables

      code : ℕ → Bool
      code = in_code image.regions

      step : (a b : Bool) → in_word t.words address ≡ a → in_keyed t.firsts address ≡ b → (a || (b || in_keyed t.lasts address)) ≡ true → in_code image.regions address ≡ true
      step true b i j e = word_inside code t.words (word_code image is.covered t.loaded t.goals t.words t.are_words) address low i
      step false true i j e = keyed_inside code t.firsts (keyed_code image KeyFirst is.covered t.loaded t.goals t.firsts t.are_firsts) address low j
      step false false i j e = keyed_inside code t.lasts (keyed_code image KeyLast is.covered t.loaded t.goals t.lasts t.are_lasts) address low e

  -- what is found to be code lies in the code that is gone through
  pub found_code : (address : ℕ) → address < 65536 → marked found.code address ≡ true → in_code image.regions address ≡ true
  found_code address low here = step (marked is.covered address) refl (sym (is.code.exact address low) ∙ here)
    where
      step : (a : Bool) → marked is.covered address ≡ a → (a || (marked is.tables address && not (in_ranges ram address))) ≡ true → in_code image.regions address ≡ true
      step true i e = covered_code image found.reached address low (sym (is.are_covered.exact address low) ∙ i)
      step false i e = table_code address low (both (marked is.tables address) (not (in_ranges ram address)) e).0

  -- the bytes of the instructions that are reached are found to be code
  pub covered_found : (address : ℕ) → address < 65536 → is_covered image found.reached address ≡ true → marked found.code address ≡ true
  covered_found address low here = is.code.exact address low
      ∙ or_left (marked is.covered address) (marked is.tables address && not (in_ranges ram address)) (is.are_covered.exact address low ∙ here)

-- an entry more
pub entries_more : (size : ℕ) (begins may : ℕ → Bool) (limit : ℕ) (marks : List Bool) (one : Bool) → 1 ≤ size → AreEntriesBelow size begins may limit marks →
    one ≡ has_entry size begins may marks limit → AreEntriesBelow size begins may (limit + 1) (marks ++ one ∷ [])
entries_more size begins may limit marks one large are is = record {
  count = length-append marks (one ∷ []) ∙ ap (λ n. n + 1) are.count;
  exact = λ address below. elim (cases_eq address (length marks)) [
    | inl e ↦
        ap (λ n. get_or (marks ++ one ∷ []) n false) e ∙ get_or-append_seam marks one [] false ∙ is
        ∙ ap (has_entry size begins may marks) (sym are.count ∙ sym e) ∙ earlier address (omega (arith, e))
    | inr other ↦
        let less : address < length marks = omega (arith, below, are.count, other) in
        get_or_append_left marks (one ∷ []) false address less ∙ are.exact address (omega (arith, less, are.count)) ∙ earlier address (omega (arith, less))
  ];
}
  where
    -- the entry before stands in the list that is made longer
    earlier : (address : ℕ) → address ≤ length marks → has_entry size begins may marks address ≡ has_entry size begins may (marks ++ one ∷ []) address
    earlier address low = step (nat_le size address) refl
      where
        step : (b : Bool) → nat_le size address ≡ b → has_entry size begins may marks address ≡ has_entry size begins may (marks ++ one ∷ []) address
        step true i =
            let some : size ≤ address = grind (arith, nat_tests) in
            ap (λ m. (begins address || (nat_le size address && m)) && may address)
            (sym (get_or_append_left marks (one ∷ []) false (address - size) (omega (arith, some, low, large))))
        step false i =
            ap (λ b. (begins address || (b && marked marks (address - size))) && may address) i
            ∙ sym (ap (λ b. (begins address || (b && marked (marks ++ one ∷ []) (address - size))) && may address) i)
