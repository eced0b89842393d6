-- The cases that are found can be added to the regions.
use Rattle.std.specs.Prelude.{◌≡◌, ◌<◌, ◌&&◌, ◌==◌, ℕ, suc, Bool, true, false, List, [], ◌∷◌, All, AllPairs, IfSome, Option, None, Some, is_none, refl, slice_index}
use Rattle.std.specs.List.{cons_option, filter_map}
use Rattle.std.proofs.Common.{arith, subst, sym, true≢false}
use Rattle.std.proofs.lemmas.List.Elements.{All-cons, All-head, All-nil, All-tail}
use Rattle.std.proofs.lemmas.List.Kept.{AllPairs-cons}
use Rattle.image80.specs.Case.{AreByAddress, DeclaredCase, IsCase}
use Rattle.image80.specs.Image.{Located, memory_of}
use Rattle.image80.specs.Regions.{in_code, targets_at}
use Rattle.verify80_cases.specs.Added.{CanBeAdded}
use Rattle.verify80_cases.specs.Suggested.{AreNotesBelow, Finding, IsFinding, IsSuggested, IsSuggestedCase, case_of}
use Rattle.verify80_cases.specs.declared.search.Note.{Note}
use Rattle.verify80_cases.specs.declared.search.SuggestedCase.{SuggestedCase}

abbrev case_in : Finding → Option DeclaredCase
case_in finding = case_of finding.found

-- no targets are declared for the address of a suggested case
none_from : (o : Option (List ℕ)) → is_none o ≡ true → o ≡ None
none_from None is = refl
none_from (Some targets) is = absurd (true≢false (sym is))

and_last : (a b c : Bool) → (a && b && c) ≡ true → c ≡ true
and_last true true c is = is
and_last true false c is = absurd (true≢false (sym is))
and_last false b c is = absurd (true≢false (sym is))

module _ (image : Located) (reached taken : List Bool) where
  -- what holds of a suggested case holds of the case that is found, if there is one
  each_more : (P : DeclaredCase → Type 0) (o : Option SuggestedCase) (cases : List DeclaredCase) → IfSome o (λ (found : SuggestedCase). P found.case) → All P cases →
      All P (cons_option (case_of o) cases)
  each_more P None cases one all = all
  each_more P (Some found) cases one all = All-cons P found.case cases one all

  suggested_if : (P : DeclaredCase → Type 0) → ((case : DeclaredCase) → IsSuggested image reached taken case → P case) → (o : Option SuggestedCase) →
      IfSome o (IsSuggestedCase image reached taken) → IfSome o (λ (found : SuggestedCase). P found.case)
  suggested_if P each None is = tt
  suggested_if P each (Some found) is = each found.case is.suggested

  each_found : (P : DeclaredCase → Type 0) → ((case : DeclaredCase) → IsSuggested image reached taken case → P case) → (findings : List Finding) →
      All (IsFinding image reached taken) findings → All P (filter_map case_in findings)
  each_found P each [] all = All-nil P
  each_found P each (f ∷ fs) all =
      each_more P f.found (filter_map case_in fs)
      (suggested_if P each f.found (All-head (IsFinding image reached taken) f fs all).found)
      (each_found P each fs (All-tail (IsFinding image reached taken) f fs all))

  -- the case is at the address of its PCHL
  at_if : (address : ℕ) (finding : Finding) → address < finding.at → (o : Option SuggestedCase) → IfSome o (λ (found : SuggestedCase). found.case.at ≡ finding.at) →
      IfSome o (λ (found : SuggestedCase). address < found.case.at)
  at_if address finding below None is = tt
  at_if address finding below (Some found) is = omega (arith, below, is)

  found_above : (address : ℕ) (findings : List Finding) → All (λ (f : Finding). address < f.at) findings → All (IsFinding image reached taken) findings →
      All (λ (case : DeclaredCase). address < case.at) (filter_map case_in findings)
  found_above address [] above all = All-nil (λ (case : DeclaredCase). address < case.at)
  found_above address (f ∷ fs) above all =
      each_more (λ (case : DeclaredCase). address < case.at) f.found (filter_map case_in fs)
      (at_if address f (All-head (λ (g : Finding). address < g.at) f fs above) f.found (All-head (IsFinding image reached taken) f fs all).at)
      (found_above address fs (All-tail (λ (g : Finding). address < g.at) f fs above) (All-tail (IsFinding image reached taken) f fs all))

  by_address_more : (at : ℕ) (o : Option SuggestedCase) (cases : List DeclaredCase) → IfSome o (λ (found : SuggestedCase). found.case.at ≡ at) →
      All (λ (case : DeclaredCase). at < case.at) cases → AreByAddress cases → AreByAddress (cons_option (case_of o) cases)
  by_address_more at None cases is above rising = rising
  by_address_more at (Some found) cases is above rising =
      AllPairs-cons (λ (a b : DeclaredCase). a.at < b.at) found.case cases (λ k d inside. omega (arith, is, above k d inside)) rising

  found_by_address : (findings : List Finding) → All (IsFinding image reached taken) findings → AllPairs (λ (a b : Finding). a.at < b.at) findings →
      AreByAddress (filter_map case_in findings)
  found_by_address [] all rising = λ i j d order inside. absurd (omega (arith, inside))
  found_by_address (f ∷ fs) all rising =
      by_address_more f.at f.found (filter_map case_in fs) (All-head (IsFinding image reached taken) f fs all).at
      (found_above f.at fs (λ k d inside. rising 0 (suc k) d (omega arith) (omega (arith, inside))) (All-tail (IsFinding image reached taken) f fs all))
      (found_by_address fs (All-tail (IsFinding image reached taken) f fs all) (λ i j d order inside. rising (suc i) (suc j) d (omega (arith, order)) (omega (arith, inside))))

  pub found_can_be_added : (findings : List Finding) → All (IsFinding image reached taken) findings → AllPairs (λ (a b : Finding). a.at < b.at) findings →
      CanBeAdded image.regions (filter_map case_in findings)
  found_can_be_added findings all rising = record {
    by_address = found_by_address findings all rising;
    each = each_found IsCase (λ case is. is.rules) findings all;
    new = each_found (λ case. targets_at image.regions case.at ≡ None)
        (λ case is. none_from (targets_at image.regions case.at)
        (and_last (in_code image.regions case.at) (slice_index (memory_of image.chunks) case.at == 233) (is_none (targets_at image.regions case.at)) is.undeclared))
        findings all;
  }

  pub noted_can_be_added : (limit : ℕ) (cases : List DeclaredCase) (tableless : List ℕ) (notes : List Note) → AreNotesBelow image reached taken limit cases tableless notes →
      CanBeAdded image.regions cases
  noted_can_be_added limit cases tableless notes are =
      subst (CanBeAdded image.regions) (sym are.cases_are) (found_can_be_added are.findings are.each are.by_address)
