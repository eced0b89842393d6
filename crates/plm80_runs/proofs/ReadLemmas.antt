-- Answers that are given to an image, its regions and the inputs of its run that were read.
use Rattle.plm80_runs.proofs.Names.{◌≡◌, ℕ, List, [], ◌∷◌, Result, Ok, IfOk, IfErr, IsOkAnd, refl, ap, subst, sym, ◌∙◌, Public, Located, Voucher}
use Rattle.plm80_runs.proofs.Names.{AnswerValue, GaveUp, Gives, GivesUp, IsAnswered, IsGiven, IsGivenUp, prints, FileValue, Journal, and_reported, file_value}
use Rattle.plm80_runs.proofs.Names.{AnswersVerdict, IsAccepted, IsRefusal, RunFiles, run_paths, AnswersRun, IsRunRead}
use Rattle.std.specs.Prelude.{Bool, ◌++◌, None, slice_index_or}
use Rattle.loader80.specs.InputsText.{bad_line}
use Rattle.loader80_trace.specs.declared.{limits.Limits.Limits, limits.Span.Span}
use Rattle.plm80_console.specs.{Journal.OnlyBlames}
use Rattle.plm80_names.specs.Verdict.{AreOfFiles}
use Rattle.plm80_runs.specs.Running.{AreLimitsOf, HaveNoRun, IsSpanOf}
use Rattle.plm80_runs.specs.declared.{run_arguments.LimitTexts.LimitTexts, run_arguments.SpanTexts.SpanTexts}
use Rattle.plm80_console.specs.AnswerLaws.{GivesOrGivesUp, IsAnsweredOrGivenUp, answered_if_made, given_up_if_made, gives_or_gives_up, gives_up_unanswered, part_given, part_given_up, reported_after}
use Rattle.plm80_console.specs.Answer.GivesUp.{before}
use Rattle.plm80_names.specs.Verdict.AnswersVerdict.{accepted, refused}

-- ---- no answer

-- files that have no run, if they are among these
have_no_run : {asked : Bool} (files others : List FileValue) (file text inputs : FileValue) → files ++ others ≡ file ∷ text ∷ inputs ∷ []
    → HaveNoRun asked files → (image : Located) (publics : List Public) → AreOfFiles asked file.bytes text.bytes image publics
    → bad_line inputs.bytes ≡ None → ⊥
have_no_run {asked = asked} (a ∷ b ∷ d ∷ files) others file text inputs same lacks image publics are good =
    let first = ap (λ (fs : List FileValue). slice_index_or fs 0 a) same in
    let second = ap (λ (fs : List FileValue). slice_index_or fs 1 a) same in
    let third = ap (λ (fs : List FileValue). slice_index_or fs 2 a) same in
    lacks image publics
    (subst (λ (f : FileValue). AreOfFiles asked a.bytes f.bytes image publics) (sym second)
    (subst (λ (f : FileValue). AreOfFiles asked f.bytes text.bytes image publics) (sym first) are))
    (subst (λ (f : FileValue). bad_line f.bytes ≡ None) (sym third) good)
have_no_run (a ∷ b ∷ []) others file text inputs same lacks image publics are good = absurd lacks
have_no_run (a ∷ []) others file text inputs same lacks image publics are good = absurd lacks
have_no_run [] others file text inputs same lacks image publics are good = absurd lacks

-- without a run there is no answer to it
pub no_run : {asked : Bool} (files others : List FileValue) (Answers : List (ℕ × ℕ) → List Public → Voucher → AnswerValue → Type 0) (answer : AnswerValue)
    → HaveNoRun asked files → AnswersRun Answers asked (files ++ others) answer → ⊥
no_run files others Answers answer lacks is =
    have_no_run files others is.image_file is.regions_file is.inputs_file is.files_are lacks is.image is.publics is.are_read is.good

pub gives_up_run : (Answers : List (ℕ × ℕ) → List Public → Voucher → AnswerValue → Type 0) {asked : Bool} {paths : List (List ℕ)} {old new : Journal}
    → OnlyBlames (HaveNoRun asked) paths old new → GivesUp (AnswersRun Answers asked) paths old new
gives_up_run Answers {asked = asked} blames =
    gives_up_unanswered (AnswersRun Answers asked)
    (λ files lacks others answer named is. no_run files others Answers answer lacks is) blames

-- options write one number
pub same_limits : (texts : LimitTexts) (a b : Limits) → AreLimitsOf texts a → AreLimitsOf texts b → a ≡ b
same_limits texts a b are_a are_b = λ k. record { steps = (are_a.steps.1 ∙ sym are_b.steps.1) k; outputs = (are_a.outputs.1 ∙ sym are_b.outputs.1) k }

pub same_span : (texts : SpanTexts) (a b : Span) → IsSpanOf texts a → IsSpanOf texts b → a ≡ b
same_span texts a b are_a are_b = λ k. record { from = (are_a.from.1 ∙ sym are_b.from.1) k; count = (are_a.count.1 ∙ sym are_b.count.1) k }

module _ {paths : RunFiles} {old between : Journal} {image : Located} {publics : List Public} {inputs : List (ℕ × ℕ)}
    (read : IsRunRead paths old between image publics inputs) (new : Journal) where
  abbrev files_read : List FileValue
  files_read = file_value paths.program.image.now read.file ∷ file_value paths.program.regions.now read.text ∷ file_value paths.inputs.now read.spelling ∷ []

  -- a fault behind them
  pub run_reported : {Answers : List FileValue → AnswerValue → Type 0} → new ≡ and_reported between → GivesUp Answers (run_paths paths) old new
  run_reported is = before (reported_after old between new files_read (run_paths paths) refl read.journal is)

  module _ (Answers : List (ℕ × ℕ) → List Public → Voucher → AnswerValue → Type 0) where
    abbrev RunVerdict : AnswerValue → Type 0
    RunVerdict = AnswersVerdict (Answers inputs publics) image publics

    answers_run : (answer : AnswerValue) → RunVerdict answer → AnswersRun Answers paths.program.names files_read answer
    answers_run answer answers = record {
      image_file = file_value paths.program.image.now read.file;
      regions_file = file_value paths.program.regions.now read.text;
      inputs_file = file_value paths.inputs.now read.spelling;
      files_are = refl;
      image = image;
      publics = publics;
      are_read = read.are_read;
      good = read.good;
      answers = subst (λ (pairs : List (ℕ × ℕ)). AnswersVerdict (Answers pairs publics) image publics answer) read.spelled answers;
    }

    pub run_answered : {E : Type 0} (r : Result ℕ E) → IfOk r (IsAnswered RunVerdict between new)
        → IfOk r (Gives (AnswersRun Answers paths.program.names) (run_paths paths) old new)
    run_answered r gave =
        part_given (AnswersRun Answers paths.program.names) (run_paths paths) old between new files_read refl read.journal
        RunVerdict answers_run r gave

    pub run_given_up : {E : Type 0} (r : Result ℕ E) → IfErr r (λ _. IsGivenUp RunVerdict between new)
        → IfErr r (λ _. GivesUp (AnswersRun Answers paths.program.names) (run_paths paths) old new)
    run_given_up r up =
        part_given_up (AnswersRun Answers paths.program.names) (run_paths paths) old between new files_read refl read.journal
        RunVerdict answers_run r up

    pub run_or_gives_up : {E : Type 0} (r : Result ℕ E) → IsAnsweredOrGivenUp RunVerdict between new r
        → GivesOrGivesUp (AnswersRun Answers paths.program.names) (run_paths paths) old new r
    run_or_gives_up r is = (run_answered r is.0, run_given_up r is.1)

    pub run_if_made : {E F : Type 0} (made : Result AnswerValue F) (r : Result ℕ E) → IfOk made RunVerdict
        → IfOk r (λ status. IsOkAnd made (λ answer. IsGiven answer between new status))
        → IfErr r (λ _. IsGivenUp (λ answer. made ≡ Ok answer) between new)
        → GivesOrGivesUp (AnswersRun Answers paths.program.names) (run_paths paths) old new r
    run_if_made made r answers gave up =
        run_or_gives_up r (answered_if_made RunVerdict between new made r answers gave, given_up_if_made RunVerdict between new made r answers up)

    -- of one that is accepted, what is answered of its run
    pub run_accepted : {E : Type 0} (program : Voucher) → IsAccepted image program → (r : Result ℕ E)
        → IfOk r (IsAnswered (Answers inputs publics program) between new) → IfOk r (Gives (AnswersRun Answers paths.program.names) (run_paths paths) old new)
    run_accepted program is r gave =
        part_given (AnswersRun Answers paths.program.names) (run_paths paths) old between new files_read refl read.journal
        (Answers inputs publics program) (λ answer answers. answers_run answer (accepted program is answers)) r gave

    pub run_accepted_given_up : {E : Type 0} (program : Voucher) → IsAccepted image program → (r : Result ℕ E)
        → IfErr r (λ _. IsGivenUp (Answers inputs publics program) between new)
        → IfErr r (λ _. GivesUp (AnswersRun Answers paths.program.names) (run_paths paths) old new)
    run_accepted_given_up program is r up =
        part_given_up (AnswersRun Answers paths.program.names) (run_paths paths) old between new files_read refl read.journal
        (Answers inputs publics program) (λ answer answers. answers_run answer (accepted program is answers)) r up

    -- of another one, its refusal
    pub run_refused : {E : Type 0} (line : List ℕ) (answer : AnswerValue) (r : Result ℕ E) → IsRefusal image publics line → answer ≡ prints line 1
        → IfOk r (IsGiven answer between new) → IfErr r (λ _. GaveUp answer between new)
        → GivesOrGivesUp (AnswersRun Answers paths.program.names) (run_paths paths) old new r
    run_refused line answer r is answer_is gave up =
        gives_or_gives_up (AnswersRun Answers paths.program.names) (run_paths paths) old between new files_read refl read.journal answer r
        (answers_run answer (refused line is answer_is)) gave up
