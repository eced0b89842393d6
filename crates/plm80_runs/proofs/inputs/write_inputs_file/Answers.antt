use Rattle.plm80_runs.proofs.Names.{Bor, ℕ, List, None, ◌≡◌, ◌≢◌, ◌<◌, ◌-◌, ◌∙◌, [], ◌∷◌, ◌++◌, ap, arith, get_or, length, map, refl, sym, subst, AnswerValue, AnswersWords, IsInputsFile, word_of}
use Rattle.std.proofs.Common.{length-append}
use Rattle.std.proofs.lemmas.{List.get_or-append_right}
use Rattle.plm80_console.specs.AnswerLaws.{gives_or_gives_up, wrong_so_far}
use Rattle.plm80_runs.specs.InputWords.{FaultsFile, IsFirstBadWord, IsGoodWord}
use Rattle.plm80_runs.specs.declared.inputs.InputsFileFault.TheVariants.{BadInput, TooLong, Memory}
use Rattle.plm80_runs.specs.declared.inputs.InputsFileFault.{InputsFileFault}
use Rattle.plm80_runs.proofs.inputs.write_inputs_file.Goals as goal

-- words that have a fault give no file
no_file : (words : List (List ℕ)) (out : List ℕ) (answer : AnswerValue) (fault : InputsFileFault) → FaultsFile words fault → fault ≢ Memory
    → IsInputsFile words out answer → ⊥
no_file words out answer (BadInput word) is other good =
    let at : length is.before < length words = subst (λ (ws : List (List ℕ)). length is.before < length ws) (sym is.are_words)
    (omega (arith, length-append is.before (word.now ∷ is.after))) in
    let here : length is.before - length is.before ≡ 0 = omega arith in
    good.good (length is.before) [] at
    (subst (λ (w : List ℕ). word_of w ≡ None)
    (sym (ap (λ (ws : List (List ℕ)). get_or ws (length is.before) []) is.are_words
    ∙ get_or-append_right is.before (word.now ∷ is.after) (length is.before) (length is.before) [] refl (omega arith)
    ∙ ap (λ (n : ℕ). get_or (word.now ∷ is.after) n []) here))
    is.bad)
no_file words out answer TooLong is other good = omega (arith, is.1, good.within)
no_file words out answer Memory is other good = other refl

pub returns-in-Ok : goal.returns-in-Ok
returns-in-Ok g c =
    let asked = c.args.arguments.now in
    let old = g.C.Console.journal c.args.console.now in
    let both = gives_or_gives_up (AnswersWords asked) [] old old (g.C.Console.journal c.give.new.self) [] refl refl c.in-Ok.answer c.give.result
    (subst (λ (ws : List (Bor (List ℕ))). IsInputsFile (map (λ w. w.now) ws) asked.out.now c.in-Ok.answer) c.deref.ensures.value
    (record { good = c.in-Ok.ensures.good; within = c.in-Ok.ensures.within; answer_is = c.in-Ok.ensures.text }))
    c.give.ensures.given c.give.ensures.fault in
    record { done = both.0; fault = both.1 }

pub returns-in-Err-clause-fault : goal.returns-in-Err-clause-fault
returns-in-Err-clause-fault g c =
    let asked = c.args.arguments.now in
    let old = g.C.Console.journal c.args.console.now in
    wrong_so_far (AnswersWords asked) [] old old (g.C.Console.journal c.report_inputs.new.console) [] [] refl refl
    (λ other others answer named answers.
    no_file (map (λ w. w.now) asked.words.items) asked.out.now answer c.in-Err.fault
    (subst (λ (ws : List (Bor (List ℕ))). FaultsFile (map (λ w. w.now) ws) c.in-Err.fault) c.deref.ensures.value c.in-Err.ensures.fault) other answers)
    c.report_inputs.ensures
