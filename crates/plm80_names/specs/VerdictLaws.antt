-- What follows for what is answered of an image and its regions that were read: laws that hold whatever the answers are. (This project's own.)
use Rattle.std.specs.Prelude.{◌≡◌, ℕ, Bool, List, [], ◌∷◌, ◌++◌, Result, Ok, IfOk, IfErr, IsOkAnd, slice_index_or}
use Rattle.std.proofs.Common.{refl, ap, subst, sym, ◌∙◌}
use Rattle.omf_model.specs.declared.symbols.Public.{Public}
use Rattle.image80.specs.{Image.Located, Regions.Areas, RegionsText.Spells}
use Rattle.plm80_console.specs.Answer.{AnswerValue, Gives, GivesUp, IsAnswered, IsGiven, IsGivenUp, NoAnswer}
use Rattle.plm80_console.specs.AnswerLaws.{GivesOrGivesUp, answered_if_made, given_up_if_made, gives_up_unanswered, part_given, part_given_up}
use Rattle.plm80_console.specs.Journal.{FileValue, Journal, OnlyBlames, and_read, file_value}
use Rattle.plm80_names.specs.{Blaming.GivesUpOrBlames, BlamingLaws.part_given_up_or_blamed}
use Rattle.plm80_names.specs.Verdict.{AnswersProgram, AreOfNone, HaveNoProgram, IsProgramRead}

-- the same bytes of the first two files
same_first : (first second : FileValue) (files others behind : List FileValue) (image text : FileValue) → (first ∷ second ∷ files) ++ others ≡ image ∷ text ∷ behind
    → (first ≡ image) × (second ≡ text)
same_first first second files others behind image text same =
    (ap (λ (fs : List FileValue). slice_index_or fs 0 first) same, ap (λ (fs : List FileValue). slice_index_or fs 1 first) same)

-- files that have no program, if they are among these
pub have_no_program : {asked : Bool} (files others behind : List FileValue) (image text : FileValue) → files ++ others ≡ image ∷ text ∷ behind
    → HaveNoProgram asked files → AreOfNone asked image.bytes text.bytes
have_no_program {asked = asked} (first ∷ second ∷ files) others behind image text same lacks =
    let both = same_first first second files others behind image text same in
    subst (λ (f : FileValue). AreOfNone asked f.bytes text.bytes) both.0 (subst (λ (f : FileValue). AreOfNone asked first.bytes f.bytes) both.1 lacks)
have_no_program (first ∷ []) others behind image text same lacks = absurd lacks
have_no_program [] others behind image text same lacks = absurd lacks

-- without a program there is no answer to it
pub no_program : (Answers : Located → List Public → AnswerValue → Type 0) {asked : Bool} {paths : List (List ℕ)} (files : List FileValue)
    → HaveNoProgram asked files → NoAnswer (AnswersProgram Answers asked) paths files
no_program Answers files lacks others answer named is =
    have_no_program files others [] is.image_file is.regions_file is.files_are lacks is.image is.publics is.are_read

pub gives_up_program : (Answers : Located → List Public → AnswerValue → Type 0) {asked : Bool} {paths : List (List ℕ)} {old new : Journal}
    → OnlyBlames (HaveNoProgram asked) paths old new → GivesUp (AnswersProgram Answers asked) paths old new
gives_up_program Answers {asked = asked} blames = gives_up_unanswered (AnswersProgram Answers asked) (no_program Answers) blames

module _ {image_path regions_path : List ℕ} {asked : Bool} {old between : Journal} {image : Located} {publics : List Public}
    (read : IsProgramRead image_path regions_path asked old between image publics) (new : Journal) where
  abbrev pub program_files : List FileValue
  program_files = file_value image_path read.file ∷ file_value regions_path read.text ∷ []

  module _ (Answers : Located → List Public → AnswerValue → Type 0) where
    pub answers_program : (answer : AnswerValue) → Answers image publics answer → AnswersProgram Answers asked program_files answer
    answers_program answer answers = record {
      image_file = file_value image_path read.file;
      regions_file = file_value regions_path read.text;
      files_are = refl;
      image = image;
      publics = publics;
      are_read = read.are_read;
      answers = answers;
    }

    -- the text of the regions spells no others
    pub same_regions : ((text : List ℕ) (areas others : Areas) → Spells text areas → Spells text others → areas ≡ others) → (answer : AnswerValue)
        → (is : AnswersProgram Answers asked program_files answer) → is.image.regions ≡ image.regions
    same_regions one answer is =
        one read.text is.image.regions image.regions
        (subst (λ (f : FileValue). Spells f.bytes is.image.regions) (sym (ap (λ (fs : List FileValue). slice_index_or fs 1 is.regions_file) is.files_are))
        is.are_read.regions)
        read.are_read.regions

    pub program_answered : {E : Type 0} (r : Result ℕ E) → IfOk r (IsAnswered (Answers image publics) between new)
        → IfOk r (Gives (AnswersProgram Answers asked) (image_path ∷ regions_path ∷ []) old new)
    program_answered r gave =
        part_given (AnswersProgram Answers asked) (image_path ∷ regions_path ∷ []) old between new program_files refl read.journal
        (Answers image publics) answers_program r gave

    pub program_given_up : {E : Type 0} (r : Result ℕ E) → IfErr r (λ _. IsGivenUp (Answers image publics) between new)
        → IfErr r (λ _. GivesUp (AnswersProgram Answers asked) (image_path ∷ regions_path ∷ []) old new)
    program_given_up r up =
        part_given_up (AnswersProgram Answers asked) (image_path ∷ regions_path ∷ []) old between new program_files refl read.journal
        (Answers image publics) answers_program r up

    pub program_or_gives_up : {E F : Type 0} (made : Result AnswerValue F) (r : Result ℕ E) → IfOk made (Answers image publics)
        → IfOk r (λ status. IsOkAnd made (λ answer. IsGiven answer between new status))
        → IfErr r (λ _. IsGivenUp (λ answer. made ≡ Ok answer) between new)
        → GivesOrGivesUp (AnswersProgram Answers asked) (image_path ∷ regions_path ∷ []) old new r
    program_or_gives_up made r answers gave up = (
      program_answered r (answered_if_made (Answers image publics) between new made r answers gave),
      program_given_up r (given_up_if_made (Answers image publics) between new made r answers up),
    )

    -- such an answer is one of others, and nothing came before
    module _ (More : List FileValue → AnswerValue → Type 0)
        (more : (files : List FileValue) (answer : AnswerValue) → AnswersProgram Answers asked files answer → More files answer) (first : Journal)
        (same : old ≡ first) where
      journal_is : between ≡ and_read (and_read first image_path read.file) regions_path read.text
      journal_is = read.journal ∙ ap (λ (j : Journal). and_read (and_read j image_path read.file) regions_path read.text) same

      pub more_answered : {E : Type 0} (r : Result ℕ E) → IfOk r (IsAnswered (Answers image publics) between new)
          → IfOk r (Gives More (image_path ∷ regions_path ∷ []) first new)
      more_answered r gave =
          part_given More (image_path ∷ regions_path ∷ []) first between new program_files refl journal_is (Answers image publics)
          (λ answer answers. more program_files answer (answers_program answer answers)) r gave

      pub more_given_up : {E : Type 0} (r : Result ℕ E) → IfErr r (λ _. IsGivenUp (Answers image publics) between new)
          → IfErr r (λ _. GivesUp More (image_path ∷ regions_path ∷ []) first new)
      more_given_up r up =
          part_given_up More (image_path ∷ regions_path ∷ []) first between new program_files refl journal_is (Answers image publics)
          (λ answer answers. more program_files answer (answers_program answer answers)) r up

      -- or arguments or files were blamed, to which there is no such answer
      pub more_given_up_or_blamed : {E : Type 0} {Wrong : Type 0} (r : Result ℕ E)
          → (Wrong → (answer : AnswerValue) → More program_files answer → ⊥)
          → IfErr r (λ _. GivesUpOrBlames Wrong (Answers image publics) between new)
          → IfErr r (λ _. GivesUp More (image_path ∷ regions_path ∷ []) first new)
      more_given_up_or_blamed r none up =
          part_given_up_or_blamed More (image_path ∷ regions_path ∷ []) first between new program_files refl journal_is (Answers image publics)
          (λ answer answers. more program_files answer (answers_program answer answers)) none r up
