use Rattle.std.proofs.Common.{◌≡◌, ◌<◌, ◌∷◌, ◌++◌, All, rules, subst, sym}
use Rattle.std.specs.Prelude.{None, Some}
use Rattle.std.proofs.lemmas.List.Elements.{All-nil, All-push}
use Rattle.plm80_regions.specs.CaseTexts.{AreTargetTexts}
use Rattle.plm80_regions.proofs.CaseTextLemmas.{left_last, left_more, parts_of}
use Rattle.plm80_regions.proofs.case_texts.targets_of.Goals as goal

pub loop-first-init : goal.loop-first-init
loop-first-init c = record {
  is_text = search rules;
  left = λ others are. subst (λ ts. AreTargetTexts c.args.text.now (ts ++ others)) (sym c.new-targets.ensures.items) are;
  whole = λ others are. (others, are);
  words = subst (All (λ target. target < 65536)) (sym c.new-targets.ensures.items) (All-nil (λ target. target < 65536));
}

pub loop-first-preserved : goal.loop-first-preserved
loop-first-preserved c =
    let first = c.in-Some.first.now in
    let behind = c.in-Some.behind.now in
    let target = c.in-Some-word_of_digits.target in
    let targets = c.loop-first.targets.items in
    let cut : c.loop-first.rest.now ≡ first ++ 44 ∷ behind = search rules in
    rw c.in_ok-push.ensures.items
    (record {
      is_text = search rules;
      left = left_more c.args.text.now first behind c.loop-first.rest.now targets target cut c.in-Some-word_of_digits.ensures.word.0
          c.in-Some-word_of_digits.ensures.word.1 c.loop-first.invariant.left;
      whole = λ others are.
          let left = c.loop-first.invariant.whole others are in
          (parts_of c.loop-first.rest.now left.0 (Some (c.in-Some.first, c.in-Some.behind)) c.in-Some.ensures.cases left.1).1;
      words = All-push (λ target. target < 65536) targets target c.loop-first.invariant.words (search rules);
    })

pub returns-clause-texts : goal.returns-clause-texts
returns-clause-texts c =
    subst (AreTargetTexts c.args.text.now) (sym c.in_ok-push-2.ensures.items)
    (left_last c.args.text.now c.loop-first.rest.now c.loop-first.targets.items c.in-Some-word_of_digits-2.target c.in-Some-word_of_digits-2.ensures.word.0
    c.in-Some-word_of_digits-2.ensures.word.1 c.loop-first.invariant.left)

pub returns-clause-words : goal.returns-clause-words
returns-clause-words c =
    subst (All (λ target. target < 65536)) (sym c.in_ok-push-2.ensures.items)
    (All-push (λ target. target < 65536) c.loop-first.targets.items c.in-Some-word_of_digits-2.target c.loop-first.invariant.words (search rules))

pub returns-in_default-word_of_digits-clause-none : goal.returns-in_default-word_of_digits-clause-none
returns-in_default-word_of_digits-clause-none c = λ others are.
    let left = c.loop-first.invariant.whole others are in
    c.in_default-word_of_digits.ensures.none
    (parts_of c.loop-first.rest.now left.0 (Some (c.in-Some.first, c.in-Some.behind)) c.in-Some.ensures.cases left.1).0

pub returns-in_default-word_of_digits-2-clause-none : goal.returns-in_default-word_of_digits-2-clause-none
returns-in_default-word_of_digits-2-clause-none c = λ others are.
    let left = c.loop-first.invariant.whole others are in
    c.in_default-word_of_digits-2.ensures.none (parts_of c.loop-first.rest.now left.0 None c.in_default.ensures.cases left.1)
