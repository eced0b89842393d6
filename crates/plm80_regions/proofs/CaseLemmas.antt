-- The cases and the notes of the addresses below one.
use Rattle.plm80_regions.proofs.Names.{◌≡◌, ℕ, zero, suc, ◌+◌, ◌<◌, Bool, true, false, if◌then◌else◌, List, [], ◌∷◌, ◌++◌}
use Rattle.plm80_regions.proofs.Names.{Option, filter, filter_map, length, codes, refl, cons_option, range_with_len, ◌∙◌, ap}
use Rattle.plm80_regions.proofs.Names.{append-nil, arith, subst, sym, Appends, Appends-nil, Appends-trans, flat_map-append, map-append}
use Rattle.plm80_regions.proofs.Names.{All-nil, All-push, filter-append, filter_map-append, DeclaredCase, Located, case_text, cases_text}
use Rattle.plm80_regions.proofs.Names.{Note, Finding, IsFinding, IsSearched, case_of, is_open, FoundCase, text_limit}
use Rattle.plm80_regions.proofs.Names.{AreFoundBelow, FindsCases, HasLongCases, IsFoundAt}
use Rattle.plm80_regions.proofs.Names.{AppendsFront, BeginsCases, LeavesFront, inr}
use Rattle.std.specs.Prelude.{IfErr, IfOk, Result}
use Rattle.omf_model.specs.declared.symbols.Public.{Public}
use Rattle.plm80_console.specs.Answer.{Gives, GivesUp, IsAnswered, IsGivenUp}
use Rattle.plm80_console.specs.AnswerLaws.{part_given, part_given_up}
use Rattle.plm80_console.specs.Journal.{Journal}
use Rattle.plm80_names.specs.FrontLaws.{all_front, front_of_second}
use Rattle.plm80_names.specs.{Verdict.IsProgramRead, VerdictLaws.answers_program, VerdictLaws.program_files}
use Rattle.plm80_regions.specs.Cases.{AnswersCases, AnswersCasesInPart, PrintsCases, PrintsCasesInPart}
use Rattle.plm80_regions.specs.Cases.IsFoundAt.{here, nothing}

range_more : (a n j : ℕ) → a + n ≡ j → range_with_len a (suc n) ≡ range_with_len a n ++ j ∷ []
range_more a zero j e = ap (λ (k : ℕ). k ∷ []) (let is : a ≡ j = omega (arith, e) in is)
range_more a (suc n) j e = ap (λ (l : List ℕ). a ∷ l) (range_more (a + 1) n j (omega (arith, e)))

range_next : (n : ℕ) → range_with_len 0 (n + 1) ≡ range_with_len 0 n ++ n ∷ []
range_next n = let on : n + 1 ≡ suc n = omega arith in ap (range_with_len 0) on ∙ range_more 0 n n (omega arith)

abbrev at_of : Finding → ℕ
at_of finding = finding.at

module _ (image : Located) (reached taken : List Bool) where
  -- no address
  pub found_nothing : (cases : List DeclaredCase) (notes : List Note) → cases ≡ [] → notes ≡ [] → AreFoundBelow image reached taken 0 cases notes
  found_nothing cases notes no_cases no_notes =
      record { findings = []; each = All-nil (IsFinding image reached taken); of_all = refl; cases_are = no_cases; notes_are = no_notes }

  filtered : (at : ℕ) (b : Bool) → is_open image reached at ≡ b
      → filter (is_open image reached) (range_with_len 0 (at + 1)) ≡ filter (is_open image reached) (range_with_len 0 at) ++ (if b then at ∷ [] else [])
  filtered at b e =
      ap (filter (is_open image reached)) (range_next at)
      ∙ filter-append (is_open image reached) (range_with_len 0 at) (at ∷ [])
      ∙ ap (λ (c : Bool). filter (is_open image reached) (range_with_len 0 at) ++ (if c then at ∷ [] else [])) e

  module _ (at : ℕ) (cases : List DeclaredCase) (notes : List Note) (so_far : AreFoundBelow image reached taken at cases notes) where
    -- what is found at an address, or nothing
    pub one_more : (found : FoundCase) (after_cases : List DeclaredCase) (after_notes : List Note) → IsFoundAt image reached taken at found
        → after_cases ≡ cases ++ cons_option found.case [] → after_notes ≡ notes ++ cons_option found.note []
        → AreFoundBelow image reached taken (at + 1) after_cases after_notes
    one_more found after_cases after_notes (nothing closed no_case no_note) cases_are notes_are = record {
      findings = so_far.findings;
      each = so_far.each;
      of_all = so_far.of_all ∙ sym (append-nil (filter (is_open image reached) (range_with_len 0 at))) ∙ sym (filtered at false closed);
      cases_are = cases_are ∙ ap (λ (o : Option DeclaredCase). cases ++ cons_option o []) no_case ∙ append-nil cases ∙ so_far.cases_are;
      notes_are = notes_are ∙ ap (λ (o : Option Note). notes ++ cons_option o []) no_note ∙ append-nil notes ∙ so_far.notes_are;
    }
    one_more found after_cases after_notes (here is_here suggested found_so case_is) cases_are notes_are =
        let finding : Finding = record { at = at; found = suggested; note = found.note } in
        record {
          findings = so_far.findings ++ finding ∷ [];
          each = All-push (IsFinding image reached taken) so_far.findings finding so_far.each found_so;
          of_all = map-append at_of so_far.findings (finding ∷ []) ∙ ap (λ (l : List ℕ). l ++ at ∷ []) so_far.of_all ∙ sym (filtered at true is_here);
          cases_are = cases_are ∙ ap (λ (cs : List DeclaredCase). cs ++ cons_option found.case []) so_far.cases_are
              ∙ ap (λ (o : Option DeclaredCase). filter_map (λ (f : Finding). case_of f.found) so_far.findings ++ cons_option o []) case_is
              ∙ sym (filter_map-append (λ (f : Finding). case_of f.found) so_far.findings (finding ∷ []));
          notes_are = notes_are ∙ ap (λ (ns : List Note). ns ++ cons_option found.note []) so_far.notes_are
              ∙ sym (filter_map-append (λ (f : Finding). f.note) so_far.findings (finding ∷ []));
        }

-- ---- lines

cases_more : (cases one : List DeclaredCase) → cases_text (cases ++ one) ≡ cases_text cases ++ cases_text one
cases_more cases one = flat_map-append (λ (case : DeclaredCase). (codes "CASE " ++ case_text case) ++ 10 ∷ []) cases one

pub lines_more : (cases one after : List DeclaredCase) (lines new : List ℕ) → lines ≡ cases_text cases → new ≡ lines ++ cases_text one
    → after ≡ cases ++ one → new ≡ cases_text after
lines_more cases one after lines new so_far added after_is =
    added ∙ ap (λ (l : List ℕ). l ++ cases_text one) so_far ∙ sym (cases_more cases one) ∙ ap cases_text (sym after_is)

-- what is found of the PCHLs below 65536
pub finds_cases : (image : Located) (entries : List ℕ) (reached taken : List Bool) (limit : ℕ) (cases : List DeclaredCase) (notes : List Note)
    → IsSearched image entries reached taken → limit ≡ 65536 → AreFoundBelow image reached taken limit cases notes → FindsCases image entries cases notes
finds_cases image entries reached taken limit cases notes searched all found = record {
  reached = reached;
  taken = taken;
  searched = searched;
  found = subst (λ (n : ℕ). AreFoundBelow image reached taken n cases notes) all found;
}

-- ---- lines that are too long

pub long_cases : (image : Located) (entries : List ℕ) (reached taken : List Bool) (at : ℕ) (cases : List DeclaredCase) (notes : List Note) (lines : List ℕ)
    → AreFoundBelow image reached taken at cases notes → lines ≡ cases_text cases → IsSearched image entries reached taken → (found : FoundCase)
    → IsFoundAt image reached taken at found → text_limit < length (lines ++ cases_text (cons_option found.case [])) → HasLongCases image entries
long_cases image entries reached taken at cases notes lines so_far lines_are searched found at_it long = record {
  reached = reached;
  taken = taken;
  searched = searched;
  limit = at + 1;
  cases = cases ++ cons_option found.case [];
  notes = notes ++ cons_option found.note [];
  found = one_more image reached taken at cases notes so_far found (cases ++ cons_option found.case []) (notes ++ cons_option found.note [])
      at_it refl refl;
  too_long = subst (λ (l : List ℕ). text_limit < length l)
      (ap (λ (l : List ℕ). l ++ cases_text (cons_option found.case [])) lines_are ∙ sym (cases_more cases (cons_option found.case []))) long;
}

-- ---- lines that are written as they are found

pub record Shown (image : Located) (reached taken : List Bool) (limit : ℕ) (notes : List Note) (old now : Option (List ℕ)) : Type 0 where
  pub cases : List DeclaredCase
  pub found : AreFoundBelow image reached taken limit cases notes
  pub written : Appends old now (cases_text cases)

module _ (image : Located) (reached taken : List Bool) where
  pub shown_nothing : (notes : List Note) (old : Option (List ℕ)) → notes ≡ [] → Shown image reached taken 0 notes old old
  shown_nothing notes old none = record {
    cases = [];
    found = found_nothing image reached taken [] notes refl none;
    written = Appends-nil old;
  }

  module _ (at : ℕ) (notes : List Note) (old now : Option (List ℕ)) (shown : Shown image reached taken at notes old now) where
    pub shown_more : (found : FoundCase) (after : List Note) (new : Option (List ℕ)) → IsFoundAt image reached taken at found
        → Appends now new (cases_text (cons_option found.case [])) → after ≡ notes ++ cons_option found.note []
        → Shown image reached taken (at + 1) after old new
    shown_more found after new at_it written noted = record {
      cases = shown.cases ++ cons_option found.case [];
      found = one_more image reached taken at shown.cases notes shown.found found (shown.cases ++ cons_option found.case []) after at_it refl noted;
      written = subst (λ (l : List ℕ). Appends old new l)
          (sym (cases_more shown.cases (cons_option found.case [])))
          (Appends-trans old now new (cases_text shown.cases) (cases_text (cons_option found.case [])) shown.written written);
    }

    -- the lines so far, and a front part of those of what is found then
    begun : (limit : ℕ) (cases : List DeclaredCase) (after : List Note) → AreFoundBelow image reached taken limit cases after
        → IsSearched image [] reached taken → BeginsCases image (cases_text cases)
    begun limit cases after found searched = record {
      reached = reached;
      taken = taken;
      searched = searched;
      limit = limit;
      cases = cases;
      notes = after;
      found = found;
      text_is = refl;
    }

    pub shown_front : IsSearched image [] reached taken → LeavesFront (BeginsCases image) old now
    shown_front searched =
        inr (cases_text shown.cases, begun at shown.cases notes shown.found searched, all_front old now (cases_text shown.cases) shown.written)

    pub shown_front_more : IsSearched image [] reached taken → (found : FoundCase) (new : Option (List ℕ)) → IsFoundAt image reached taken at found
        → AppendsFront now new (cases_text (cons_option found.case [])) → LeavesFront (BeginsCases image) old new
    shown_front_more searched found new at_it part =
        let cases = shown.cases ++ cons_option found.case [] in
        let after = notes ++ cons_option found.note [] in
        inr (
          cases_text cases,
          begun (at + 1) cases after (one_more image reached taken at shown.cases notes shown.found found cases after at_it refl refl) searched,
          subst (λ (l : List ℕ). AppendsFront old new l) (sym (cases_more shown.cases (cons_option found.case [])))
              (front_of_second old now new (cases_text shown.cases) (cases_text (cons_option found.case [])) shown.written part),
        )

-- ---- an answer to an image and its regions

module _ {image_path regions_path : List ℕ} {old between : Journal} {image : Located} {publics : List Public}
    (read : IsProgramRead image_path regions_path false old between image publics) (new : Journal) (out : Option (List ℕ)) where
  pub cases_or_gives_up : {E : Type 0} (r : Result ℕ E) → IfOk r (IsAnswered (PrintsCases out image) between new)
      → IfErr r (λ _. IsGivenUp (PrintsCasesInPart out image) between new)
      → IfOk r (Gives (AnswersCases out) (image_path ∷ regions_path ∷ []) old new)
      × IfErr r (λ _. GivesUp (AnswersCasesInPart out) (image_path ∷ regions_path ∷ []) old new)
  cases_or_gives_up r gave up = (
    part_given (AnswersCases out) (image_path ∷ regions_path ∷ []) old between new (program_files read new) refl read.journal
        (PrintsCases out image) (λ answer answers. record { is = answers_program read new (λ i ps. PrintsCases out i) answer answers }) r gave,
    part_given_up (AnswersCasesInPart out) (image_path ∷ regions_path ∷ []) old between new (program_files read new) refl read.journal
        (PrintsCasesInPart out image) (λ answer answers. record { is = answers_program read new (λ i ps. PrintsCasesInPart out i) answer answers }) r up,
  )
