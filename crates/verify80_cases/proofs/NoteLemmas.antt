-- The notes of the addresses below one.
use Rattle.std.specs.Prelude.{◌≡◌, ℕ, ◌+◌, ◌<◌, List, [], ◌∷◌, ◌++◌, Option, None, Some, refl}
use Rattle.std.specs.List.{cons_option}
use Rattle.std.proofs.Common.{◌∙◌, ap, append-nil, arith, subst, sym}
use Rattle.std.proofs.lemmas.List.Elements.{All-nil, All-push, filter_map-append}
use Rattle.std.proofs.lemmas.List.Quantifiers.{all_pairs_push}
use Rattle.image80.specs.Case.{DeclaredCase}
use Rattle.image80.specs.Image.{Located}
use Rattle.verify80_cases.specs.declared.search.Note.{Note}
use Rattle.verify80_cases.specs.declared.search.SuggestedCase.{SuggestedCase}
use Rattle.verify80_cases.specs.Suggested.{AreNotesBelow, Finding, IsFinding, IsNote, IsSuggestedCase, case_of, tableless_of}
use Rattle.std.specs.Prelude.{Bool}

abbrev finding_case : Finding → Option DeclaredCase
finding_case finding = case_of finding.found

abbrev finding_tableless : Finding → Option ℕ
finding_tableless finding = tableless_of finding.at finding.found

abbrev finding_note : Finding → Option Note
finding_note finding = finding.note

module _ (image : Located) (reached taken : List Bool) where
  pub no_notes : AreNotesBelow image reached taken 0 [] [] []
  no_notes = record {
    findings = [];
    each = All-nil (IsFinding image reached taken);
    by_address = λ i j d before inside. absurd (omega (arith, inside));
    below = All-nil (λ (finding : Finding). finding.at < 0);
    cases_are = refl;
    tableless_are = refl;
    notes_are = refl;
  }

  module _ (at : ℕ) (cases : List DeclaredCase) (others : List ℕ) (notes : List Note) (so_far : AreNotesBelow image reached taken at cases others notes) where
    -- nothing more is found
    pub notes_passed : AreNotesBelow image reached taken (at + 1) cases others notes
    notes_passed = record {
      findings = so_far.findings;
      each = so_far.each;
      by_address = so_far.by_address;
      below = λ k d inside. omega (arith, so_far.below k d inside);
      cases_are = so_far.cases_are;
      tableless_are = so_far.tableless_are;
      notes_are = so_far.notes_are;
    }

    -- a PCHL more
    one_finding : (finding : Finding) → finding.at ≡ at → IsFinding image reached taken finding →
        AreNotesBelow image reached taken (at + 1) (cases ++ cons_option (finding_case finding) []) (others ++ cons_option (finding_tableless finding) []) (notes ++ cons_option finding.note [])
    one_finding finding here is = record {
      findings = so_far.findings ++ finding ∷ [];
      each = All-push (IsFinding image reached taken) so_far.findings finding so_far.each is;
      by_address = all_pairs_push (λ (a b : Finding). a.at < b.at) so_far.findings finding so_far.by_address (λ k d inside. omega (arith, so_far.below k d inside, here));
      below = All-push (λ (f : Finding). f.at < at + 1) so_far.findings finding (λ k d inside. omega (arith, so_far.below k d inside)) (omega (arith, here));
      cases_are = ap (λ cs. cs ++ cons_option (finding_case finding) []) so_far.cases_are ∙ sym (filter_map-append finding_case so_far.findings (finding ∷ []));
      tableless_are = ap (λ os. os ++ cons_option (finding_tableless finding) []) so_far.tableless_are ∙ sym (filter_map-append finding_tableless so_far.findings (finding ∷ []));
      notes_are = ap (λ ns. ns ++ cons_option finding.note []) so_far.notes_are ∙ sym (filter_map-append finding_note so_far.findings (finding ∷ []));
    }

    pub note_of_case : (found : SuggestedCase) (note : Option Note) → IsSuggestedCase image reached taken found → found.case.at ≡ at → IsNote at (Some found) note →
        AreNotesBelow image reached taken (at + 1) (cases ++ found.case ∷ []) others (notes ++ cons_option note [])
    note_of_case found note is here said =
        subst (λ os. AreNotesBelow image reached taken (at + 1) (cases ++ found.case ∷ []) os (notes ++ cons_option note [])) (append-nil others)
        (one_finding (record { at = at; found = Some found; note = note }) refl (record { found = is; at = here; note = said }))

    pub note_of_other : (note : Option Note) → IsNote at None note → AreNotesBelow image reached taken (at + 1) cases (others ++ at ∷ []) (notes ++ cons_option note [])
    note_of_other note said =
        subst (λ cs. AreNotesBelow image reached taken (at + 1) cs (others ++ at ∷ []) (notes ++ cons_option note [])) (append-nil cases)
        (one_finding (record { at = at; found = None; note = note }) refl (record { found = tt; at = tt; note = said }))
