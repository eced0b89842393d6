-- Answers that are given to a board, an image and its regions that were read.
use Rattle.plm80_runs.proofs.Names.{◌≡◌, ◌∙◌, ap, arith, ℕ, true, List, [], ◌∷◌, Option, None, Some, Result, Ok, Err, IfOk, IfErr, IsOkAnd, refl, Public, Located}
use Rattle.plm80_runs.proofs.Names.{AnswerValue, Appends, Appends-trans, AppendsFront, GaveUp, Gives, GivesUp, IsAnswered, IsGiven}
use Rattle.plm80_runs.proofs.Names.{IsGivenUp, prints, Journal, and_reported, file_value, FileValue, IfErr-weaker, Bor, ◌++◌, drop, subst, sym}
use Rattle.plm80_runs.proofs.Names.{Areas, IsRefusal, LeavesFront, Limits, Span}
use Rattle.std.proofs.Common.{inr}
use Rattle.board80.specs.declared.line.Line.{Line}
use Rattle.image80.specs.RegionsText.{Spells as SpellsRegions}
use Rattle.loader80_board.specs.BoardLines.{WritesFront, WritesLines}
use Rattle.loader80_board.specs.declared.ended.BoardEnded.{BoardEnded}
use Rattle.loader80_trace.specs.declared.fault.TraceFault.{TraceFault}
use Rattle.machine80_board.specs.BoardRun.{DevicesAreData, IsMisplaced, board_start}
use Rattle.board80.specs.Board.{Spells, gives_device, in_device}
use Rattle.plm80_boards.specs.BoardLaws.{gives_on_board}
use Rattle.plm80_boards.specs.Boards.{HaveNoBoard, IsBoardOf, IsBoardRead, board_paths}
use Rattle.std.specs.Prelude.{Bool, OnErr, false, slice_index_or, ◌||◌}
use Rattle.plm80_boards.specs.Boards.IsBoardOf.{one}
use Rattle.plm80_console.specs.Answer.IsGivenUp.{before as unmade, within as unfinished}
use Rattle.plm80_console.specs.Journal.{Blames, OnlyBlames, and_blamed, and_read}
use Rattle.plm80_console.specs.Journal.OnlyBlames.{other, wrong}
use Rattle.plm80_console.specs.AnswerLaws.{answered_of, blamed_after, given_or_given_up, gives_up_unanswered, more_paths}
use Rattle.plm80_names.specs.{Arguments.asks_names, Arguments.program_paths, Verdict.AnswersProgram, Verdict.HaveNoProgram}
use Rattle.plm80_names.specs.Blaming.GivesUpOrBlames.{wrong as blamed}
use Rattle.plm80_names.specs.FrontLaws.{front_of_first, front_of_second}
use Rattle.plm80_names.specs.VerdictLaws.{more_given_up_or_blamed, no_program, program_answered, program_files, program_given_up, same_regions}
use Rattle.plm80_runs.specs.declared.board_files.BoardFiles.{BoardFiles}
use Rattle.plm80_runs.specs.declared.on_board.Ran.{Ran}
use Rattle.plm80_runs.specs.declared.runnable.{Runnable.Runnable, Runnable.TheVariants.Accepted, Runnable.TheVariants.Followed}
use Rattle.plm80_runs.specs.OnBoards.{AnswersAmongDevices, AnswersRunOnBoard, BeginsTrace, HaveNoBoardProgram, IfGiven, IsBoardProgramRead}
use Rattle.plm80_runs.specs.OnBoards.{IsRunnable, TracesLines, board_program_paths, board_trace_ending, first_line, image_of}
use Rattle.plm80_runs.specs.OnBoards.AnswersRunnable.{refused, runs}

-- a program that runs is the image's
pub is_of_image : {image : Located} {publics : List Public} (program : Runnable) → IsRunnable image publics program → image_of program ≡ image
is_of_image (Accepted program) is = is.ground.image_is
is_of_image (Followed image table) is = is.ground.image_is

-- ---- a device outside data

or_true : (b : Bool) → (b || true) ≡ true
or_true true = refl
or_true false = refl

device_among : (before : List Line) (line : Line) (after : List Line) (address : ℕ) → gives_device line address ≡ true
    → in_device (before ++ line ∷ after) address ≡ true
device_among [] line after address is = ap (λ (b : Bool). b || in_device after address) is
device_among (first ∷ before) line after address is =
    ap (λ (b : Bool). gives_device first address || b) (device_among before line after address is) ∙ or_true (gives_device first address)

-- such a board has no answer
misplaced_or_data : (lines : List Line) (regions : Areas) (number : ℕ) → IsMisplaced lines regions number → DevicesAreData lines regions → ⊥
misplaced_or_data lines regions number is devices =
    let there = ap (λ (ls : List Line). in_device ls is.address) is.cut ∙ device_among is.before is.line is.after is.address is.device in
    let never : true ≡ false = sym (devices is.address there) ∙ is.outside in
    absurd cc

-- ---- answers

-- what is answered so, or given up so, is one of others
more_answered : {E : Type 0} (Done Part More Rest : AnswerValue → Type 0) → ((answer : AnswerValue) → Done answer → More answer)
    → ((answer : AnswerValue) → Part answer → Rest answer) → (old new : Journal) (r : Result ℕ E) → IfOk r (IsAnswered Done old new)
    → IfErr r (λ _. IsGivenUp Part old new) → IfOk r (IsAnswered More old new) × IfErr r (λ _. IsGivenUp Rest old new)
more_answered {E = E} Done Part More Rest more rest old new (Ok status) gave up =
    ((answered_of {E = E} Done More more old new (Ok status) (gave, tt)).0, tt)
more_answered {E = E} Done Part More Rest more rest old new (Err e) gave up =
    (tt, (answered_of {E = E} Part Rest rest old new (Err e) (tt, up)).1)

module _ {paths : BoardFiles} {old between : Journal} {board : List Line} {image : Located} {publics : List Public}
    (read : IsBoardProgramRead paths old between board image publics) (new : Journal) (Done Part : List Line → List Public → Runnable → AnswerValue → Type 0) where
  abbrev GivesRun : {E : Type 0} → Result ℕ E → Type 0
  GivesRun r = IfOk r (Gives (AnswersRunOnBoard Done paths) (board_program_paths paths) old new)
      × IfErr r (λ _. GivesUp (AnswersRunOnBoard Part paths) (board_program_paths paths) old new)

  -- what is answered of a board and an image, or given up
  board_answers : {E : Type 0} (r : Result ℕ E) → IfOk r (IsAnswered (AnswersAmongDevices Done board image publics) between new)
      → IfErr r (λ _. IsGivenUp (AnswersAmongDevices Part board image publics) between new) → GivesRun r
  board_answers {E = E} (Ok status) gave up = (
    (gives_on_board (Some paths.board) (λ given. AnswersProgram (IfGiven (AnswersAmongDevices Done) given) (asks_names paths.program))
        (program_paths paths.program) old read.between new (Some board) read.is_board {E = E} (Ok status)
        (program_answered read.program new (IfGiven (AnswersAmongDevices Done) (Some board)) {E = E} (Ok status) gave) tt).0,
    tt,
  )
  board_answers {E = E} (Err e) gave up = (
    tt,
    (gives_on_board (Some paths.board) (λ given. AnswersProgram (IfGiven (AnswersAmongDevices Part) given) (asks_names paths.program))
        (program_paths paths.program) old read.between new (Some board) read.is_board {E = E} (Err e)
        tt (program_given_up read.program new (IfGiven (AnswersAmongDevices Part) (Some board)) {E = E} (Err e) up)).1,
  )

  -- of a program that runs, what is answered of its run
  pub runnable_answers : {E : Type 0} → DevicesAreData board image.regions → (program : Runnable) → IsRunnable image publics program
      → (r : Result ℕ E) → IfOk r (IsAnswered (Done board publics program) between new)
      → IfErr r (λ _. IsGivenUp (Part board publics program) between new) → GivesRun r
  runnable_answers devices program is r gave up =
      let both = more_answered (Done board publics program) (Part board publics program) (AnswersAmongDevices Done board image publics)
      (AnswersAmongDevices Part board image publics) (λ answer done. record { devices = devices; answers = runs program is done })
      (λ answer part. record { devices = devices; answers = runs program is part }) between new r gave up in
      board_answers r both.0 both.1

  -- of another one, its refusal
  pub refused_answers : {E : Type 0} → DevicesAreData board image.regions → (line : List ℕ) (answer : AnswerValue) (r : Result ℕ E)
      → IsRefusal image publics line → answer ≡ prints line 1 → IfOk r (IsGiven answer between new) → IfErr r (λ _. GaveUp answer between new)
      → GivesRun r
  refused_answers devices line answer r is answer_is gave up =
      board_answers r
      (given_or_given_up (AnswersAmongDevices Done board image publics) answer between new r
      (record { devices = devices; answers = refused line is answer_is }) gave up).0
      (given_or_given_up (AnswersAmongDevices Part board image publics) answer between new r
      (record { devices = devices; answers = refused line is answer_is }) gave up).1

  -- nothing is answered if a fault is reported
  pub no_answer : new ≡ and_reported between → GivesUp (AnswersRunOnBoard Part paths) (board_program_paths paths) old new
  no_answer is = (board_answers {E = Unit {0}} (Err tt) tt (unmade is)).1

  -- nor can be if a device lies outside data, as all files have it
  pub device_blamed : ((text : List ℕ) (areas others : Areas) → SpellsRegions text areas → SpellsRegions text others → areas ≡ others)
      → (number : ℕ) → IsMisplaced board image.regions number → new ≡ and_blamed between
      → GivesUp (AnswersRunOnBoard Part paths) (board_program_paths paths) old new
  device_blamed one_reading number misplaced is =
      let Answers = IfGiven (AnswersAmongDevices Part) (Some board) in
      let asked = asks_names paths.program in
      let none : IsMisplaced board image.regions number → (answer : AnswerValue)
      → AnswersProgram Answers asked (program_files read.program new) answer → ⊥ =
      λ at answer answers.
      misplaced_or_data board image.regions number at
      (subst (λ (regions : Areas). DevicesAreData board regions) (same_regions read.program new Answers one_reading answer answers) answers.answers.devices) in
      (gives_on_board (Some paths.board) (λ given. AnswersProgram (IfGiven (AnswersAmongDevices Part) given) asked) (program_paths paths.program)
      old read.between new (Some board) read.is_board {E = Unit {0}} (Err tt) tt
      (more_given_up_or_blamed read.program new Answers (AnswersProgram Answers asked) (λ files answer answers. answers) read.between refl
      {E = Unit {0}} (Err tt) none (blamed misplaced is))).1

module _ (Answers : AnswerValue → Type 0) (old new : Journal) where
  -- the answer of a run that was printed
  pub ran_answered : {E F : Type 0} (ran : Result Ran F) (r : Result ℕ E) → IfOk ran (λ it. Answers it.answer)
      → IfOk r (λ status. IsOkAnd ran (λ it. IsGiven it.answer old new status)) → IfOk r (IsAnswered Answers old new)
  ran_answered (Ok it) (Ok status) are gave = record { answer = it.answer; answers = are; given = gave }
  ran_answered (Err f) (Ok status) are gave = absurd gave
  ran_answered ran (Err e) are gave = tt

  -- or was given up
  pub ran_given_up : {A E F : Type 0} (ran : Result Ran F) (r : Result A E) → IfOk ran (λ it. Answers it.answer)
      → IfErr r (λ _. IsGivenUp (λ answer. IsOkAnd ran (λ it. answer ≡ it.answer)) old new) → IfErr r (λ _. IsGivenUp Answers old new)
  ran_given_up {F = F} ran r are gave = IfErr-weaker r _ _ (λ _. of_up ran are) gave
    where
      of_ran : (ran : Result Ran F) (answer : AnswerValue) → IfOk ran (λ it. Answers it.answer) → IsOkAnd ran (λ it. answer ≡ it.answer) → Answers answer
      of_ran (Ok it) answer are is = subst Answers (sym is) are
      of_ran (Err f) answer are is = absurd is

      of_up : (ran : Result Ran F) → IfOk ran (λ it. Answers it.answer) → IsGivenUp (λ answer. IsOkAnd ran (λ it. answer ≡ it.answer)) old new
          → IsGivenUp Answers old new
      of_up ran are (unmade is) = unmade is
      of_up ran are (unfinished answer is up) = unfinished answer (of_ran ran answer are is) up

-- the answer behind a trace prints nothing first
pub board_trace_first : (image : Located) (publics : List Public) (ended : Option BoardEnded) → (board_trace_ending image publics ended).first ≡ []
board_trace_first image publics None = refl
board_trace_first image publics (Some ended) = refl

module _ (limits : Limits) (span : Span) (lines : List Line) (publics : List Public) (program : Runnable) where
  -- what a fault leaves as the first line is written
  pub first_stopped : (old new : Option (List ℕ)) → AppendsFront old new (first_line program) → LeavesFront (BeginsTrace limits span lines publics program) old new
  first_stopped old new part =
      inr (
        first_line program ++ [],
        record { text = []; are_lines = record { states = []; are_states = tt; within = omega arith; spells = refl }; is = refl },
        front_of_first old new (first_line program) [] part,
      )

  -- and behind it: a front part of the lines of first states
  pub lines_stopped : (r : Result (Option BoardEnded) TraceFault) (old between new : Option (List ℕ)) → Appends old between (first_line program) →
      OnErr r (WritesFront lines (image_of program).regions (board_start (image_of program)) limits span publics true between new) →
      OnErr r (LeavesFront (BeginsTrace limits span lines publics program) old new)
  lines_stopped (Ok ended) old between new first is = tt
  lines_stopped (Err fault) old between new first is =
      inr (
        first_line program ++ is.text,
        record { text = is.text; are_lines = is.are_lines; is = refl },
        front_of_second old between new (first_line program) is.text first is.written,
      )

  -- all of them
  pub lines_behind : (r : Result (Option BoardEnded) TraceFault) (old between new : Option (List ℕ)) → Appends old between (first_line program) →
      IfOk r (λ ended. WritesLines lines (image_of program).regions (board_start (image_of program)) limits span publics true ended between new) →
      IfOk r (λ ended. (text : List ℕ) × Appends old new (first_line program ++ text) × TracesLines limits span lines publics (image_of program) text ended)
  lines_behind (Ok ended) old between new first is = (
    is.text,
    Appends-trans old between new (first_line program) is.text first is.written,
    record { are_lines = is.are_lines; traced = is.traced },
  )
  lines_behind (Err fault) old between new first is = tt

-- the board of a file that was read, which no other is
alone_in : (path : Bor (List ℕ)) (file : FileValue) (board : List Line) → ((other : List Line) → Spells file.bytes other → other ≡ board)
    → (other : Option (List Line)) → IsBoardOf (Some path) (file ∷ []) other → other ≡ Some board
alone_in _ _ board alone _ (one path file lines is spelled) = ap Some (alone lines spelled)

pub board_read : {E : Type 0} (path : Bor (List ℕ)) (bytes : List ℕ) (old between new : Journal) (r : Result (List Line) E) → between ≡ and_read old path.now bytes → IfOk r (Spells bytes)
    → IfOk r (λ board. (other : List Line) → Spells bytes other → other ≡ board) → IfOk r (λ _. new ≡ between) →
    IfOk r (λ board. IsBoardRead (Some path) old new (Some board))
board_read path bytes old between new (Ok board) was spelled alone same = record {
  files = file_value path.now bytes ∷ [];
  is_board = one path (file_value path.now bytes) board refl spelled;
  alone = alone_in path (file_value path.now bytes) board alone;
  journal = same ∙ was;
}
board_read path bytes old between new (Err e) was spelled alone same = tt

pub board_blamed : {E : Type 0} (path : Bor (List ℕ)) (bytes : List ℕ) (old between new : Journal) (r : Result (List Line) E) → between ≡ and_read old path.now bytes
    → IfErr r (λ _. Blames ((board : List Line) → Spells bytes board → ⊥) between new) → IfErr r (λ _. OnlyBlames HaveNoBoard (board_paths (Some path)) old new)
board_blamed path bytes old between new r was blames =
    IfErr-weaker r _ _
    (λ _. blamed_after old between new (file_value path.now bytes ∷ []) (path.now ∷ []) refl was HaveNoBoard (λ lacks. lacks)) blames

-- ---- no answer

-- a board that isn't one, before other files
pub board_before : {asked : Bool} {old new : Journal} (path : Bor (List ℕ)) (paths : List (List ℕ)) → OnlyBlames HaveNoBoard (path.now ∷ []) old new
    → OnlyBlames (HaveNoBoardProgram asked) (path.now ∷ paths) old new
board_before path paths (other only) = other (more_paths paths only)
board_before path paths (wrong [] rest are lacks is) = absurd lacks
board_before path paths (wrong (board ∷ []) rest are lacks is) =
    wrong (board ∷ []) (rest ++ paths) (ap (λ (ps : List (List ℕ)). ps ++ paths) are) lacks is
board_before path paths (wrong (board ∷ file ∷ files) rest are lacks is) = absurd cc

-- no program behind a board
behind_one : (asked : Bool) (file : FileValue) (others : List FileValue) → HaveNoProgram asked others → HaveNoBoardProgram asked (file ∷ others)
behind_one asked file [] lacks = absurd lacks
behind_one asked file (image ∷ others) lacks = lacks

pub program_behind : (asked : Bool) (path : Bor (List ℕ)) (files : List FileValue) (board : Option (List Line)) → IsBoardOf (Some path) files board
    → (others : List FileValue) → HaveNoProgram asked others → HaveNoBoardProgram asked (files ++ others)
program_behind asked _ _ _ (one path file board is spelled) others lacks = behind_one asked file others lacks

no_board_program : {asked : Bool} (path : Bor (List ℕ)) (files : List FileValue) (board : Option (List Line)) → IsBoardOf (Some path) files board
    → (Answers : Located → List Public → AnswerValue → Type 0) (read others behind : List FileValue) (answer : AnswerValue)
    → read ++ others ≡ files ++ behind → HaveNoBoardProgram asked read → AnswersProgram Answers asked behind answer → ⊥
no_board_program _ _ _ (one path file board is spelled) Answers [] others behind answer same lacks answers = absurd lacks
no_board_program _ _ _ (one path file board is spelled) Answers (first ∷ []) others behind answer same lacks answers =
    lacks board (subst (λ (f : FileValue). Spells f.bytes board) (sym (ap (λ (fs : List FileValue). slice_index_or fs 0 first) same)) spelled)
no_board_program {asked = asked} _ _ _ (one path file board is spelled) Answers (first ∷ image ∷ read) others behind answer same lacks answers =
    no_program Answers (image ∷ read) lacks others answer refl
    (subst (λ (fs : List FileValue). AnswersProgram Answers asked fs answer) (sym (ap (drop 1) same)) answers)

pub gives_up_with_board : (Part : List Line → List Public → Runnable → AnswerValue → Type 0) (paths : BoardFiles) {old new : Journal}
    → OnlyBlames (HaveNoBoardProgram paths.program.names) (board_program_paths paths) old new
    → GivesUp (AnswersRunOnBoard Part paths) (board_program_paths paths) old new
gives_up_with_board Part paths blames =
    gives_up_unanswered (AnswersRunOnBoard Part paths)
    (λ files lacks others answer named is.
    no_board_program paths.board is.board_files is.board is.is_board (IfGiven (AnswersAmongDevices Part) is.board) files others is.others answer
    is.files_are lacks is.answers)
    blames
