-- What follows for a part of a command that gives up, or blames arguments or files: laws that hold whatever the answers are.
-- (This project's own.)
use Rattle.std.specs.Prelude.{◌≡◌, ℕ, List, [], ◌∷◌, ◌++◌, Result, Ok, Err, IfErr, drop}
use Rattle.std.proofs.Common.{refl, ap, subst, sym, append-nil, ◌∙◌}
use Rattle.std.proofs.lemmas.Result.{IfErr-weaker}
use Rattle.plm80_console.specs.Answer.{AnswerValue, GivesUp, IsGivenUp}
use Rattle.plm80_console.specs.Answer.IsGivenUp.{before, within}
use Rattle.plm80_console.specs.Answer.GivesUp.{unanswered}
use Rattle.plm80_console.specs.AnswerLaws.{part_given_up}
use Rattle.plm80_console.specs.Journal.{Blames, FileValue, Journal, and_blamed, and_read_files, paths_of}
use Rattle.plm80_console.specs.Journal.Blames.{other as other_fault, wrong as what_is_wrong}
use Rattle.plm80_names.specs.Blaming.{GivesUpOrBlames}
use Rattle.plm80_names.specs.Blaming.GivesUpOrBlames.{given_up, wrong}

-- files that have the paths of others have none behind these
no_others : (files others : List FileValue) → paths_of (files ++ others) ≡ paths_of files → others ≡ []
no_others [] [] same = refl
no_others [] (other ∷ others) same = absurd cc
no_others (file ∷ files) others same = no_others files others (ap (λ (ps : List (List ℕ)). drop 1 ps) same)

-- all files were read
all_of_them : (files others : List FileValue) (paths : List (List ℕ)) → paths_of files ≡ paths → paths_of (files ++ others) ≡ paths
    → files ++ others ≡ files
all_of_them files others paths named all =
    ap (λ (os : List FileValue). files ++ os) (no_others files others (all ∙ sym named)) ∙ append-nil files

-- a part of an answer was given up behind all files, or they were blamed, and there is no answer to them
pub part_given_up_or_blamed : {E Wrong : Type 0} (Answers : List FileValue → AnswerValue → Type 0) (paths : List (List ℕ)) (old between new : Journal)
    (files : List FileValue) → paths_of files ≡ paths → between ≡ and_read_files old files → (Part : AnswerValue → Type 0)
    → ((answer : AnswerValue) → Part answer → Answers files answer) → (Wrong → (answer : AnswerValue) → Answers files answer → ⊥)
    → (r : Result ℕ E) → IfErr r (λ _. GivesUpOrBlames Wrong Part between new) → IfErr r (λ _. GivesUp Answers paths old new)
part_given_up_or_blamed Answers paths old between new files named read Part whole none (Ok status) up = tt
part_given_up_or_blamed Answers paths old between new files named read Part whole none (Err e) (given_up gave) =
    part_given_up Answers paths old between new files named read Part whole (Err e) gave
part_given_up_or_blamed Answers paths old between new files named read Part whole none (Err e) (wrong w is) =
    unanswered files [] (sym (append-nil (paths_of files) ∙ named))
    (λ others answer all answers. none w answer
    (subst (λ (fs : List FileValue). Answers fs answer) (all_of_them files others paths named all) answers))
    (is ∙ ap and_blamed read)

-- a fault that may blame, before there is an answer
pub blamed_before : {Wrong More : Type 0} (Answers : AnswerValue → Type 0) {old new : Journal} → (Wrong → More) → Blames Wrong old new
    → GivesUpOrBlames More Answers old new
blamed_before Answers more (other_fault is) = given_up (before is)
blamed_before Answers more (what_is_wrong w is) = wrong (more w) is

-- the same of what is answered so, and wrong by another word
pub blamed_of : {E Wrong More : Type 0} (Part Whole : AnswerValue → Type 0) → ((answer : AnswerValue) → Part answer → Whole answer) → (Wrong → More)
    → (old new : Journal) (r : Result ℕ E) → IfErr r (λ _. GivesUpOrBlames Wrong Part old new) → IfErr r (λ _. GivesUpOrBlames More Whole old new)
blamed_of {Wrong = Wrong} {More = More} Part Whole whole more old new r up = IfErr-weaker r _ _ (λ _. of_up) up
  where
    of_given : IsGivenUp Part old new → IsGivenUp Whole old new
    of_given (before is) = before is
    of_given (within answer part gave) = within answer (whole answer part) gave

    of_up : GivesUpOrBlames Wrong Part old new → GivesUpOrBlames More Whole old new
    of_up (given_up gave) = given_up (of_given gave)
    of_up (wrong w is) = wrong (more w) is
