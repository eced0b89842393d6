use Rattle.std.proofs.Common.{◌≡◌, ◌<◌, ◌∷◌, ◌++◌, All, List, ℕ, rules, subst, sym}
use Rattle.std.specs.Prelude.{IfNone, IfSome, None, Some}
use Rattle.std.proofs.lemmas.List.Filters.{dedup_is}
use Rattle.plm80_regions.specs.CaseTexts.{AreTargetTexts}
use Rattle.plm80_console.specs.NumberText.{IsWordText}
use Rattle.plm80_regions.proofs.CaseTextLemmas.{case_parts, case_text_is}
use Rattle.plm80_regions.proofs.case_texts.case_of.Goals as goal

pub invariant_of-result : goal.invariant_of-result
invariant_of-result c =
    let first = c.in-Some.first.now in
    let behind = c.in-Some.behind.now in
    let at = c.in-Some-word_of_digits.at in
    let written = c.in-Some-2.targets.items in
    let cut : c.args.text.now ≡ first ++ 61 ∷ behind = search rules in
    let below : at < 65536 = search rules in
    let texts : AreTargetTexts behind written = subst (λ o. IfSome o (λ ts. AreTargetTexts behind ts.items)) c.in-Some-2.is c.in_ok-targets.ensures.texts in
    let words : All (λ target. target < 65536) written =
    subst (λ o. IfSome o (λ ts. All (λ target. target < 65536) ts.items)) c.in-Some-2.is c.in_ok-targets.ensures.words in
    (case_text_is c.args.text.now first behind written _ at cut c.in-Some-word_of_digits.ensures.word.0 c.in-Some-word_of_digits.ensures.word.1 below texts words
    c.sort_unstable.ensures.permutation c.sort_unstable.ensures.sorted c.dedup.new.self.items (dedup_is _ _ _ c.dedup.ensures.filtered)).rules

pub returns-clause-case : goal.returns-clause-case
returns-clause-case c =
    let first = c.in-Some.first.now in
    let behind = c.in-Some.behind.now in
    let at = c.in-Some-word_of_digits.at in
    let written = c.in-Some-2.targets.items in
    let cut : c.args.text.now ≡ first ++ 61 ∷ behind = search rules in
    let below : at < 65536 = search rules in
    let texts : AreTargetTexts behind written = subst (λ o. IfSome o (λ ts. AreTargetTexts behind ts.items)) c.in-Some-2.is c.in_ok-targets.ensures.texts in
    let words : All (λ target. target < 65536) written =
    subst (λ o. IfSome o (λ ts. All (λ target. target < 65536) ts.items)) c.in-Some-2.is c.in_ok-targets.ensures.words in
    case_text_is c.args.text.now first behind written _ at cut c.in-Some-word_of_digits.ensures.word.0 c.in-Some-word_of_digits.ensures.word.1 below texts words
    c.sort_unstable.ensures.permutation c.sort_unstable.ensures.sorted c.dedup.new.self.items (dedup_is _ _ _ c.dedup.ensures.filtered)

pub returns-in_default-clause-none : goal.returns-in_default-clause-none
returns-in_default-clause-none c = λ other is. case_parts c.args.text.now other None c.in_default.ensures.cases is

pub returns-in_default-word_of_digits-clause-none : goal.returns-in_default-word_of_digits-clause-none
returns-in_default-word_of_digits-clause-none c = λ other is.
    let cut = case_parts c.args.text.now other (Some (c.in-Some.first, c.in-Some.behind)) c.in-Some.ensures.cases is in
    c.in_default-word_of_digits.ensures.none (subst IsWordText (sym cut.0) is.is_word)

pub returns-in_default-2-clause-none : goal.returns-in_default-2-clause-none
returns-in_default-2-clause-none c = λ other is.
    let cut = case_parts c.args.text.now other (Some (c.in-Some.first, c.in-Some.behind)) c.in-Some.ensures.cases is in
    let none : (others : List ℕ) → AreTargetTexts c.in-Some.behind.now others → ⊥ =
    subst (λ o. IfNone o ((others : List ℕ) → AreTargetTexts c.in-Some.behind.now others → ⊥)) c.in_default-2.is c.in_ok-targets.ensures.none in
    none is.written (subst (λ (t : List ℕ). AreTargetTexts t is.written) (sym cut.1) is.are_written)
