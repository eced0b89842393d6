-- What follows for answers that are given to files that were read: laws that hold whatever the answers are. (This project's own.)
use Rattle.std.specs.Prelude.{◌≡◌, ℕ, List, [], ◌++◌, Result, Ok, Err, IfOk, IfErr, IsOkAnd}
use Rattle.std.proofs.Common.{refl, subst, sym, ap, append-nil, append_assoc, ◌∙◌}
use Rattle.std.proofs.lemmas.Result.{IfErr-weaker, IfOk-weaker}
use Rattle.plm80_console.specs.Answer.{AnswerValue, GaveUp, Gives, GivesUp, IsAnswered, IsGiven, IsGivenUp, NoAnswer}
use Rattle.plm80_console.specs.Answer.IsGivenUp.{before as before_it, within as within_it}
use Rattle.plm80_console.specs.Answer.GivesUp.{before, unanswered, within}
use Rattle.plm80_console.specs.Journal.{Blames, FileValue, Journal, OnlyBlames, OnlyReports, and_blamed, and_read_files, and_reported, paths_of}
use Rattle.plm80_console.specs.Journal.Blames.{other as other_fault, wrong as what_is_wrong}
use Rattle.plm80_console.specs.Journal.OnlyBlames.{other, wrong}
use Rattle.plm80_console.specs.Journal.OnlyReports.{read as read_it, unread as nothing_read}

pub err_from : {A E P : Type 0} (r : Result A E) → P → IfErr r (λ _. P)
err_from (Ok x) p = tt
err_from (Err e) p = p

-- a fault behind files that were read
pub reported_after : (old between new : Journal) (files : List FileValue) (paths : List (List ℕ)) → paths_of files ≡ paths
    → between ≡ and_read_files old files → new ≡ and_reported between → OnlyReports paths old new
reported_after old between new files paths named were is =
    read_it files [] (sym (append-nil (paths_of files) ∙ named)) (is ∙ ap and_reported were)

-- further files, which weren't read
pub more_paths : {paths : List (List ℕ)} {old new : Journal} (further : List (List ℕ)) → OnlyReports paths old new
    → OnlyReports (paths ++ further) old new
more_paths further (nothing_read is) = nothing_read is
more_paths further (read_it files rest first is) =
    read_it files (rest ++ further)
    (ap (λ (ps : List (List ℕ)). ps ++ further) first ∙ append_assoc (paths_of files) rest further) is

-- nothing at all came before
pub reports_same : {A E : Type 0} {paths : List (List ℕ)} {old between new : Journal} (r : Result A E) → between ≡ old
    → OnlyReports paths between new → IfErr r (λ _. OnlyReports paths old new)
reports_same {paths = paths} {new = new} (Ok x) same only = tt
reports_same {paths = paths} {new = new} (Err e) same only = subst (λ (j : Journal). OnlyReports paths j new) same only

-- ---- faults that blame arguments or files

-- what is wrong by one word is wrong by another
pub blames_so : {Wrong More : Type 0} {old new : Journal} → (Wrong → More) → Blames Wrong old new → Blames More old new
blames_so more (other_fault is) = other_fault is
blames_so more (what_is_wrong w is) = what_is_wrong (more w) is

-- nothing at all came before
pub blames_same : {Wrong : Type 0} {old between new : Journal} → between ≡ old → Blames Wrong between new → Blames Wrong old new
blames_same {Wrong = Wrong} {new = new} same b = subst (λ (j : Journal). Blames Wrong j new) same b

-- behind files that were read
pub blamed_after : {Wrong : Type 0} (old between new : Journal) (files : List FileValue) (paths : List (List ℕ)) → paths_of files ≡ paths
    → between ≡ and_read_files old files → (More : List FileValue → Type 0) → (Wrong → More files) → Blames Wrong between new
    → OnlyBlames More paths old new
blamed_after old between new files paths named were More more (other_fault is) = other (reported_after old between new files paths named were is)
blamed_after old between new files paths named were More more (what_is_wrong w is) =
    wrong files [] (sym (append-nil (paths_of files) ∙ named)) (more w) (is ∙ ap and_blamed were)

-- further files, which weren't read
pub more_blamed : {Wrong : List FileValue → Type 0} {paths : List (List ℕ)} {old new : Journal} (further : List (List ℕ))
    → OnlyBlames Wrong paths old new → OnlyBlames Wrong (paths ++ further) old new
more_blamed further (other only) = other (more_paths further only)
more_blamed further (wrong files rest first w is) =
    wrong files (rest ++ further)
    (ap (λ (ps : List (List ℕ)). ps ++ further) first ∙ append_assoc (paths_of files) rest further) w is

pub only_blames_so : {Wrong More : List FileValue → Type 0} {paths : List (List ℕ)} {old new : Journal}
    → ((files : List FileValue) → Wrong files → More files) → OnlyBlames Wrong paths old new → OnlyBlames More paths old new
only_blames_so more (other only) = other only
only_blames_so more (wrong files rest first w is) = wrong files rest first (more files w) is

pub only_blames_same : {Wrong : List FileValue → Type 0} {paths : List (List ℕ)} {old between new : Journal} → between ≡ old
    → OnlyBlames Wrong paths between new → OnlyBlames Wrong paths old new
only_blames_same {Wrong = Wrong} {paths = paths} {new = new} same b = subst (λ (j : Journal). OnlyBlames Wrong paths j new) same b

-- what is wrong with files leaves no answer to them
pub gives_up_unanswered : {Wrong : List FileValue → Type 0} {paths : List (List ℕ)} {old new : Journal}
    (Answers : List FileValue → AnswerValue → Type 0) → ((files : List FileValue) → Wrong files → NoAnswer Answers paths files)
    → OnlyBlames Wrong paths old new → GivesUp Answers paths old new
gives_up_unanswered Answers none (other only) = before only
gives_up_unanswered Answers none (wrong files rest first w is) = unanswered files rest first (none files w) is

-- arguments to which there is no answer, whatever the files are
pub wrong_arguments : {paths : List (List ℕ)} {old new : Journal} (Answers : List FileValue → AnswerValue → Type 0)
    → ((files : List FileValue) (answer : AnswerValue) → Answers files answer → ⊥) → new ≡ and_blamed old → GivesUp Answers paths old new
wrong_arguments {paths = paths} Answers none is = unanswered [] paths refl (λ others answer named answers. none others answer answers) is

-- the first files were read, and there is no answer to them
pub wrong_so_far : {Wrong : Type 0} (Answers : List FileValue → AnswerValue → Type 0) (paths : List (List ℕ)) (old between new : Journal) (files : List FileValue)
    (rest : List (List ℕ)) → paths ≡ paths_of files ++ rest → between ≡ and_read_files old files → (Wrong → NoAnswer Answers paths files)
    → Blames Wrong between new → GivesUp Answers paths old new
wrong_so_far Answers paths old between new files rest are were lacks (other_fault is) = before (read_it files rest are (is ∙ ap and_reported were))
wrong_so_far Answers paths old between new files rest are were lacks (what_is_wrong w is) = unanswered files rest are (lacks w) (is ∙ ap and_blamed were)

-- all were
pub wrong_files : {Wrong : Type 0} (Answers : List FileValue → AnswerValue → Type 0) (paths : List (List ℕ)) (old between new : Journal) (files : List FileValue)
    → paths_of files ≡ paths → between ≡ and_read_files old files → (Wrong → NoAnswer Answers paths files) → Blames Wrong between new
    → GivesUp Answers paths old new
wrong_files Answers paths old between new files named were lacks b =
    wrong_so_far Answers paths old between new files [] (sym (append-nil (paths_of files) ∙ named)) were lacks b

-- what becomes of a part of a command whose answers are these
abbrev pub IsAnsweredOrGivenUp : {E : Type 0} (Part : AnswerValue → Type 0) (old new : Journal) → Result ℕ E → Type 0
IsAnsweredOrGivenUp Part old new r = IfOk r (IsAnswered Part old new) × IfErr r (λ _. IsGivenUp Part old new)

-- what becomes of a command whose answers to the files of these paths are these
abbrev pub GivesOrGivesUp : {E : Type 0} (Answers : List FileValue → AnswerValue → Type 0) (paths : List (List ℕ)) (old new : Journal)
    → Result ℕ E → Type 0
GivesOrGivesUp Answers paths old new r = IfOk r (Gives Answers paths old new) × IfErr r (λ _. GivesUp Answers paths old new)

-- ---- an answer that was made

pub answered_if_made : {E F : Type 0} (Part : AnswerValue → Type 0) (old new : Journal) (made : Result AnswerValue F) (r : Result ℕ E)
    → IfOk made Part → IfOk r (λ status. IsOkAnd made (λ answer. IsGiven answer old new status)) → IfOk r (IsAnswered Part old new)
answered_if_made Part old new (Ok answer) r part gave =
    IfOk-weaker r _ _ (λ status given. record { answer = answer; answers = part; given = given }) gave
answered_if_made Part old new (Err f) (Ok status) part gave = absurd gave
answered_if_made Part old new (Err f) (Err e) part gave = tt

pub given_up_if_made : {A E F : Type 0} (Part : AnswerValue → Type 0) (old new : Journal) (made : Result AnswerValue F) (r : Result A E)
    → IfOk made Part → IfErr r (λ _. IsGivenUp (λ answer. made ≡ Ok answer) old new) → IfErr r (λ _. IsGivenUp Part old new)
given_up_if_made {F = F} Part old new made r part up = IfErr-weaker r _ _ (λ _. of_made) up
  where
    of_made : IsGivenUp (λ answer. made ≡ Ok answer) old new → IsGivenUp Part old new
    of_made (before_it is) = before_it is
    of_made (within_it answer is gave) = within_it answer (subst (λ (m : Result AnswerValue F). IfOk m Part) is part) gave

-- an answer of these was given, or given up
pub given_or_given_up : {E : Type 0} (Part : AnswerValue → Type 0) (answer : AnswerValue) (old new : Journal) (r : Result ℕ E) → Part answer
    → IfOk r (IsGiven answer old new) → IfErr r (λ _. GaveUp answer old new) → IsAnsweredOrGivenUp Part old new r
given_or_given_up Part answer old new r part gave up = (
  IfOk-weaker r _ _ (λ status given. record { answer = answer; answers = part; given = given }) gave,
  IfErr-weaker r _ _ (λ _. within_it answer part) up,
)

-- what is one of these is one of others
pub answered_of : {E : Type 0} (Part Whole : AnswerValue → Type 0) (whole : (answer : AnswerValue) → Part answer → Whole answer)
    (old new : Journal) (r : Result ℕ E) → IsAnsweredOrGivenUp Part old new r → IsAnsweredOrGivenUp Whole old new r
answered_of Part Whole whole old new r is = (
  IfOk-weaker r _ _ (λ status a. record { answer = a.answer; answers = whole a.answer a.answers; given = a.given }) is.0,
  IfErr-weaker r _ _ (λ _. of_part) is.1,
)
  where
    of_part : IsGivenUp Part old new → IsGivenUp Whole old new
    of_part (before_it is_reported) = before_it is_reported
    of_part (within_it answer part up) = within_it answer (whole answer part) up

-- ---- an answer to files that were read

module _ (Answers : List FileValue → AnswerValue → Type 0) (paths : List (List ℕ)) (old between new : Journal) (files : List FileValue)
    (named : paths_of files ≡ paths) (read : between ≡ and_read_files old files) where
  gives_status : (answer : AnswerValue) (status : ℕ) → Answers files answer → IsGiven answer between new status → Gives Answers paths old new status
  gives_status answer status answers gave = record {
    files = files;
    paths_are = named;
    answer = answer;
    answers = answers;
    given = subst (λ (j : Journal). IsGiven answer j new status) read gave;
  }

  gives_up_within : (answer : AnswerValue) → Answers files answer → GaveUp answer between new → GivesUp Answers paths old new
  gives_up_within answer answers up = within files answer named answers (subst (λ (j : Journal). GaveUp answer j new) read up)

  -- a fault behind the files
  pub gives_up_behind : new ≡ and_reported between → GivesUp Answers paths old new
  gives_up_behind is = before (reported_after old between new files paths named read is)

  pub gives : {E : Type 0} (answer : AnswerValue) (r : Result ℕ E) → Answers files answer → IfOk r (IsGiven answer between new)
      → IfOk r (Gives Answers paths old new)
  gives answer r answers gave = IfOk-weaker r _ _ (λ status. gives_status answer status answers) gave

  pub gives_or_gives_up : {E : Type 0} (answer : AnswerValue) (r : Result ℕ E) → Answers files answer → IfOk r (IsGiven answer between new)
      → IfErr r (λ _. GaveUp answer between new) → GivesOrGivesUp Answers paths old new r
  gives_or_gives_up answer r answers gave up = (
    gives answer r answers gave,
    IfErr-weaker r _ _ (λ _. gives_up_within answer answers) up,
  )

  -- an answer that was given if it could be made
  pub gives_if_made : {E F : Type 0} (made : Result AnswerValue F) (r : Result ℕ E) → IfOk made (Answers files)
      → IfOk r (λ status. IsOkAnd made (λ answer. IsGiven answer between new status)) → IfOk r (Gives Answers paths old new)
  gives_if_made (Ok answer) r answers gave = gives answer r answers gave
  gives_if_made (Err f) (Ok status) answers gave = absurd gave
  gives_if_made (Err f) (Err e) answers gave = tt

  pub gives_up_if_made : {A E F : Type 0} (made : Result AnswerValue F) (r : Result A E) → IfOk made (Answers files)
      → IfErr r (λ _. IsGivenUp (λ answer. made ≡ Ok answer) between new) → IfErr r (λ _. GivesUp Answers paths old new)
  gives_up_if_made {F = F} made r answers gave =
      IfErr-weaker r (λ _. IsGivenUp (λ answer. made ≡ Ok answer) between new) (λ _. GivesUp Answers paths old new) (λ _ up. of_made up) gave
    where
      of_made : IsGivenUp (λ answer. made ≡ Ok answer) between new → GivesUp Answers paths old new
      of_made (before_it is) = gives_up_behind is
      of_made (within_it answer is up) = gives_up_within answer (subst (λ (m : Result AnswerValue F). IfOk m (Answers files)) is answers) up

  pub both_if_made : {E F : Type 0} (made : Result AnswerValue F) (r : Result ℕ E) → IfOk made (Answers files)
      → IfOk r (λ status. IsOkAnd made (λ answer. IsGiven answer between new status))
      → IfErr r (λ _. IsGivenUp (λ answer. made ≡ Ok answer) between new) → GivesOrGivesUp Answers paths old new r
  both_if_made made r answers gave up = (gives_if_made made r answers gave, gives_up_if_made made r answers up)

  -- an answer that is one to these files by what is known of it
  module _ (Part : AnswerValue → Type 0) (whole : (answer : AnswerValue) → Part answer → Answers files answer) where
    pub part_given : {E : Type 0} (r : Result ℕ E) → IfOk r (IsAnswered Part between new) → IfOk r (Gives Answers paths old new)
    part_given r gave = IfOk-weaker r _ _ (λ status is. gives_status is.answer status (whole is.answer is.answers) is.given) gave

    pub part_given_up : {E : Type 0} (r : Result ℕ E) → IfErr r (λ _. IsGivenUp Part between new) → IfErr r (λ _. GivesUp Answers paths old new)
    part_given_up r up = IfErr-weaker r _ _ (λ _. of_part) up
      where
        of_part : IsGivenUp Part between new → GivesUp Answers paths old new
        of_part (before_it is) = gives_up_behind is
        of_part (within_it answer part up) = gives_up_within answer (whole answer part) up

    pub part_gives_or_gives_up : {E : Type 0} (r : Result ℕ E) → IsAnsweredOrGivenUp Part between new r → GivesOrGivesUp Answers paths old new r
    part_gives_or_gives_up r is = (part_given r is.0, part_given_up r is.1)

-- ---- an answer of one kind that is one of another, if nothing came before

module _ (Answers More : List FileValue → AnswerValue → Type 0) (paths : List (List ℕ)) (old between new : Journal)
    (more : (files : List FileValue) (answer : AnswerValue) → Answers files answer → More files answer) (same : between ≡ old) where
  pub gives_more : {E : Type 0} (r : Result ℕ E) → IfOk r (Gives Answers paths between new) → IfOk r (Gives More paths old new)
  gives_more r gave =
      IfOk-weaker r _ _
      (λ status is. record {
        files = is.files;
        paths_are = is.paths_are;
        answer = is.answer;
        answers = more is.files is.answer is.answers;
        given = subst (λ (j : Journal). IsGiven is.answer (and_read_files j is.files) new status) same is.given;
      })
      gave

  -- where no others are of the other kind
  module _ (fewer : (files : List FileValue) (answer : AnswerValue) → More files answer → Answers files answer) where
    pub gives_up_more : {E : Type 0} (r : Result ℕ E) → IfErr r (λ _. GivesUp Answers paths between new)
        → IfErr r (λ _. GivesUp More paths old new)
    gives_up_more r up = IfErr-weaker r _ _ (λ _ u. of_up (subst (λ (j : Journal). GivesUp Answers paths j new) same u)) up
      where
        of_up : GivesUp Answers paths old new → GivesUp More paths old new
        of_up (before only) = before only
        of_up (unanswered files rest first none is) =
            unanswered files rest first (λ others answer named answers. none others answer named (fewer (files ++ others) answer answers)) is
        of_up (within files answer named answers gave) = within files answer named (more files answer answers) gave

    pub more_or_gives_up : {E : Type 0} (r : Result ℕ E) → GivesOrGivesUp Answers paths between new r → GivesOrGivesUp More paths old new r
    more_or_gives_up r is = (gives_more r is.0, gives_up_more r is.1)
