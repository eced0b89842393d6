use Rattle.std.proofs.Common.{Bor, ℕ, ◌+◌, ◌<◌, List, [], ◌∷◌, ◌++◌, is_ok, length, map, not, take, refl, ◌∙◌, ap, get_or, subst, sym}
use Rattle.std.specs.Prelude.{IfNone, IfSome}
use Rattle.std.proofs.lemmas.{Bool.cond-true, List.get_or-map, List.length-map, List.map_more}
use Rattle.plm80_console.specs.{Journal.and_blamed, Journal.Blames.wrong}
use Rattle.image80.specs.Case.{DeclaredCase}
use Rattle.plm80_regions.specs.CaseTexts.{AreCaseTexts, IsCaseText}
use Rattle.plm80_regions.specs.CaseTexts.AreCaseTexts.{more, none}
use Rattle.plm80_regions.proofs.CaseTextLemmas.{text_at}
use Rattle.plm80_regions.proofs.case_texts.written_cases.Goals as goal

abbrev text_of : Bor (List ℕ) → List ℕ
text_of text = text.now

-- one case more
cases_more : (texts : List (Bor (List ℕ))) (i : ℕ) (d : Bor (List ℕ)) (cases : List DeclaredCase) (case : DeclaredCase) → i < length texts
    → AreCaseTexts (map (λ t. t.now) (take i texts)) cases → IsCaseText (get_or texts i d).now case
    → AreCaseTexts (map (λ t. t.now) (take (i + 1) texts)) (cases ++ case ∷ [])
cases_more texts i d cases case lt so_far one =
    subst (λ (l : List (List ℕ)). AreCaseTexts l (cases ++ case ∷ []))
    (sym (map_more text_of texts i d lt))
    (more (map text_of (take i texts)) (get_or texts i d).now cases case so_far one)

pub loop-value-init : goal.loop-value-init
loop-value-init g c = record { cases = rw c.new-cases.ensures.items none; unchanged = refl }

pub loop-value-preserved : goal.loop-value-preserved
loop-value-preserved g c =
    let d : Bor (List ℕ) = record { ref_ptr = (0, 0); now = [] } in
    record {
      cases =
          rw (c.push.ensures.items ∙ cond-true (is_ok c.push.result) (c.loop-value.cases.items ++ c.in-Some.case ∷ []) c.loop-value.cases.items
          (c.is_err.ensures.negation ∙ ap not c.if-is_err.false))
          (cases_more c.args.values.now c.loop-value.value-index d c.loop-value.cases.items c.in-Some.case
          c.loop-value-test.true c.loop-value.invariant.cases (subst (λ o. IfSome o (IsCaseText (get_or c.args.values.now c.loop-value.value-index d).now)) c.in-Some.is c.in-Ok.ensures.case));
      unchanged = c.loop-value.invariant.unchanged;
    }

pub returns-in_default-written-clause-fault : goal.returns-in_default-written-clause-fault
returns-in_default-written-clause-fault g c =
    let texts = c.args.values.now in
    let d : Bor (List ℕ) = record { ref_ptr = (0, 0); now = [] } in
    let at = c.loop-value.value-index in
    let none : (other : DeclaredCase) → IsCaseText (get_or texts at d).now other → ⊥ =
    subst (λ o. IfNone o ((other : DeclaredCase) → IsCaseText (get_or texts at d).now other → ⊥)) c.in_default-written.is c.in-Ok.ensures.none in
    wrong
    (λ cases are.
    let one = text_at (map text_of texts) cases are at (subst (λ (n : ℕ). at < n) (sym (length-map texts text_of)) c.loop-value-test.true) in
    none one.0 (subst (λ (text : List ℕ). IsCaseText text one.0) (get_or-map text_of texts at d [] c.loop-value-test.true) one.1))
    (c.blame_number.ensures ∙ ap and_blamed c.loop-value.invariant.unchanged)
