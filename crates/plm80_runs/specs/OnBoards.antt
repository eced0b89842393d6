-- What commands print of a program's run among the devices of a board. (This project's own.)
use Rattle.std.specs.Prelude.{◌≡◌, ℕ, Bool, List, [], ◌∷◌, ◌++◌, Option, None, Some, true, false, Contains, codes, length}
use Rattle.std.specs.Fmt.{decimal}
use Rattle.board80.specs.declared.line.Line.{Line}
use Rattle.decode80.specs.declared.fetching.Fetched.{Fetched}
use Rattle.image80.specs.Image.{Located, memory_of}
use Rattle.image80_text.specs.NameText.{labelled_text}
use Rattle.loader80_board.specs.{BoardCounts.IsCounted, declared.counting.BoardCounts.BoardCounts}
use Rattle.loader80_board.specs.BoardLines.{AreFirstLinesOf, AreLinesOf, IsTraced}
use Rattle.loader80_board.specs.BoardTranscript.{IsRunTranscript, board_end_line}
use Rattle.loader80_board.specs.{OnBoards.StandsOnBoard, declared.ended.BoardEnded.BoardEnded}
use Rattle.loader80_trace.specs.{Cover.cover_lines, Cover.sums_line, declared.limits.Limits.Limits, declared.limits.Span.Span}
use Rattle.machine80.specs.World.{World}
use Rattle.machine80_board.specs.BoardRun.{BoardState, DevicesAreData, IsReached, board_start}
use Rattle.omf_model.specs.declared.symbols.Public.{Public}
use Rattle.plm80_boards.specs.Boards.{HaveNoBoard, IsBoardRead, WithBoard, board_paths}
use Rattle.plm80_console.specs.Answer.{AnswerValue, prints}
use Rattle.plm80_console.specs.Journal.{FileValue, Journal}
use Rattle.plm80_names.specs.{Arguments.asks_names, Arguments.program_paths, Verdict.AnswersProgram}
use Rattle.plm80_names.specs.{Verdict.HaveNoProgram, Verdict.IsAccepted, Verdict.IsProgramRead, Verdict.IsRefusal}
use Rattle.plm80_runs.specs.{Running.AreLimitsOf, Running.IsSpanOf, Running.named_ending, Status.board_end_status}
use Rattle.plm80_runs.specs.declared.board_files.BoardFiles.{BoardFiles}
use Rattle.plm80_runs.specs.declared.board_run.BoardRunArguments.{BoardRunArguments}
use Rattle.plm80_runs.specs.declared.board_run.RunOutput.{RunOutput}
use Rattle.plm80_runs.specs.declared.board_run.RunOutput.TheVariants.{Transcript, Counts}
use Rattle.plm80_runs.specs.declared.board_trace.BoardTraceArguments.{BoardTraceArguments}
use Rattle.plm80_runs.specs.declared.runnable.{Judged.Judged, Judged.TheVariants.Refused, Judged.TheVariants.Runs}
use Rattle.plm80_runs.specs.declared.runnable.{Runnable.Runnable, Runnable.TheVariants.Accepted, Runnable.TheVariants.Followed}
use Rattle.verify80.specs.{Looking.code_of, Reached.AreReached}
use Rattle.verify80_follow.specs.{Follows.ways_of, Promise.KeepsFollowed, Promise.PromiseOf, Reaching.AreFollowed, Reaching.places_of, Tables.IsFit, declared.fit.Table.Table}
use Rattle.verify80_states.specs.QuietBoards.{is_quiet}

-- ---- three files

-- the paths of a board and of a program, in the order in which they are read
abbrev pub board_program_paths : BoardFiles → List (List ℕ)
board_program_paths files = board_paths (Some files.board) ++ program_paths files.program

-- a board was read, and then an image, its regions and its names
pub record IsBoardProgramRead (paths : BoardFiles) (old new : Journal) (board : List Line) (image : Located) (publics : List Public) : Type 0 where
  pub between : Journal
  pub is_board : IsBoardRead (Some paths.board) old between (Some board)
  pub program : IsProgramRead paths.program.image.now paths.program.regions.now (asks_names paths.program) between new image publics

-- the first of these files is no board, or no program is behind it
abbrev pub HaveNoBoardProgram : (asked : Bool) → List FileValue → Type 0
HaveNoBoardProgram asked (board ∷ file ∷ files) = HaveNoProgram asked (file ∷ files)
HaveNoBoardProgram asked files = HaveNoBoard files

-- an answer to an image, if there is a board
abbrev pub IfGiven : (Answers : List Line → Located → List Public → AnswerValue → Type 0) → Option (List Line) → Located → List Public →
    AnswerValue → Type 0
IfGiven Answers None image publics answer = ⊥
IfGiven Answers (Some lines) image publics answer = Answers lines image publics answer

-- ---- programs that run

-- a table that follows a program from SP at the stack's top, on every board, keeps its promise
abbrev pub KeepsTable : Located → Table → Type 0
KeepsTable image table = PromiseOf false image (is_quiet image.regions []) true (places_of table []) table.ways.items table.listed table.bytes

-- a table that follows a program so fits
abbrev pub FitsTable : Located → Table → Type 0
FitsTable image table = IsFit image false (is_quiet image.regions []) true table []

-- the verifier refuses the image, and a table follows its program, fits, and keeps its promise
pub record IsFollowed (image : Located) (publics : List Public) (same : Located) (table : Table) : Type 0 where
  pub image_is : same ≡ image
  pub line : List ℕ
  pub refused : IsRefusal image publics line
  pub fit : FitsTable image table
  pub promise : KeepsTable image table

-- why a program runs: the verifier accepts its image, or a table follows it
abbrev pub HasGround : Located → List Public → Runnable → Type 0
HasGround image publics (Accepted program) = IsAccepted image program
HasGround image publics (Followed same table) = IsFollowed image publics same table

abbrev pub image_of : Runnable → Located
image_of (Accepted program) = program.image
image_of (Followed image table) = image

-- how many bytes of stack a program needs at most
abbrev pub stack_bytes_of : Runnable → ℕ
stack_bytes_of (Accepted program) = program.stack_bytes
stack_bytes_of (Followed image table) = table.bytes

-- what is printed before all else: how many states follow the program, if a table does
abbrev pub states_line : Table → List ℕ
states_line table = codes "FOLLOWED " ++ (decimal (length table.states.items) ++ codes " STATES\n")

abbrev pub first_line : Runnable → List ℕ
first_line (Accepted program) = []
first_line (Followed image table) = states_line table

-- a state's machine, with some open calls, is a world that keeps what is promised of a program that this table follows, at one of the places where
-- the table's states stand
pub record StandsFollowed (image : Located) (table : Table) (s : BoardState) : Type 0 where
  pub world : World
  pub same : world.machine ≡ s.machine
  pub stands : Contains (places_of table []) s.machine.cpu.pc
  pub keeps : KeepsFollowed image false table.bytes (ways_of table.ways.items (places_of table [])) table.listed world

-- what is promised of a state of a program's run
abbrev pub KeepsPromise : Runnable → BoardState → Type 0
KeepsPromise (Accepted program) s = StandsOnBoard program.image program.stack_bytes s
KeepsPromise (Followed image table) s = StandsFollowed image table s

-- each state of each run of a program among devices in its data keeps what is promised
abbrev pub RunsKeepPromise : Runnable → Type 0
RunsKeepPromise program = (lines : List Line) → DevicesAreData lines (image_of program).regions → (most steps : ℕ) (s : BoardState) →
    IsReached lines (image_of program).regions most (board_start (image_of program)) steps s → KeepsPromise program s

-- a program of this image that runs
pub record IsRunnable (image : Located) (publics : List Public) (program : Runnable) : Type 0 where
  pub ground : HasGround image publics program
  pub promise : RunsKeepPromise program

-- An image whose program runs has an answer of the program; of another one the line of its refusal is printed alone, and the status is 1.
pub data AnswersRunnable (Answers : Runnable → AnswerValue → Type 0) (image : Located) (publics : List Public) (answer : AnswerValue) : Type 0 where
  runs : (program : Runnable) → IsRunnable image publics program → Answers program answer → AnswersRunnable Answers image publics answer
  refused : (line : List ℕ) → IsRefusal image publics line → answer ≡ prints line 1 → AnswersRunnable Answers image publics answer

-- the devices of a board lie in the image's data, and its program or its refusal has such an answer
pub record AnswersAmongDevices (Answers : List Line → List Public → Runnable → AnswerValue → Type 0) (lines : List Line) (image : Located)
    (publics : List Public) (answer : AnswerValue) : Type 0 where
  pub devices : DevicesAreData lines image.regions
  pub answers : AnswersRunnable (Answers lines publics) image publics answer

-- an answer to a board, the names of a program and the program, as three files have them; or the image's refusal
abbrev pub AnswersRunOnBoard : (Answers : List Line → List Public → Runnable → AnswerValue → Type 0) → BoardFiles → List FileValue → AnswerValue → Type 0
AnswersRunOnBoard Answers files =
    WithBoard (Some files.board) (λ board. AnswersProgram (IfGiven (AnswersAmongDevices Answers) board) (asks_names files.program))

-- what is known of an image that was judged
abbrev pub IsJudged : Located → List Public → Judged → Type 0
IsJudged image publics (Runs program) = IsRunnable image publics program
IsJudged image publics (Refused line) = IsRefusal image publics line.items

-- ---- run

-- The transcript of the program's run on the board is printed behind its first line, with a name in its last one; it has the program's
-- bytes of stack, and the status is the run's.
pub record TranscribesRun (limits : Limits) (lines : List Line) (publics : List Public) (program : Runnable) (answer : AnswerValue) : Type 0 where
  pub ended : BoardEnded
  pub text : List ℕ
  pub transcript : IsRunTranscript lines (image_of program) (stack_bytes_of program) limits ended text
  pub answer_is : answer ≡ prints (first_line program ++ named_ending (image_of program).regions.code publics text) (board_end_status ended.end)

-- ---- trace

-- how a run ended: its last line with a name, and its exit status
abbrev pub board_ending : Located → List Public → BoardEnded → AnswerValue
board_ending image publics ended =
    prints (named_ending image.regions.code publics (board_end_line ended.end ended.at ended.steps)) (board_end_status ended.end)

-- what is printed behind the lines of a run: its last line, if they reached it; else nothing, and the status is 0
abbrev pub board_trace_ending : Located → List Public → Option BoardEnded → AnswerValue
board_trace_ending image publics None = prints [] 0
board_trace_ending image publics (Some ended) = board_ending image publics ended

-- a text is the lines of a run, which ended so if they reached that
pub record TracesLines (limits : Limits) (span : Span) (lines : List Line) (publics : List Public) (image : Located) (text : List ℕ)
    (ended : Option BoardEnded) : Type 0 where
  pub are_lines : AreLinesOf lines image.regions (board_start image) limits span publics true text
  pub traced : IsTraced lines image.regions (board_start image) limits span ended

-- the program's first line and the lines of its run are printed, and behind them how the run ended, if they reached that
pub record TracesOnBoard (limits : Limits) (span : Span) (lines : List Line) (publics : List Public) (program : Runnable) (answer : AnswerValue) : Type 0 where
  pub text : List ℕ
  pub ended : Option BoardEnded
  pub traces : TracesLines limits span lines publics (image_of program) text ended
  pub answer_is : answer ≡ record (board_trace_ending (image_of program) publics ended) { first = first_line program ++ text }

-- a text is the program's first line and the lines of a span's first states
pub record BeginsTrace (limits : Limits) (span : Span) (lines : List Line) (publics : List Public) (program : Runnable) (begun : List ℕ) : Type 0 where
  pub text : List ℕ
  pub are_lines : AreFirstLinesOf lines (image_of program).regions (board_start (image_of program)) limits span publics true text
  pub is : begun ≡ first_line program ++ text

-- what a trace is that is given up: the whole, or a text of first lines alone
pub data TracesOnBoardInPart (limits : Limits) (span : Span) (lines : List Line) (publics : List Public) (program : Runnable) (answer : AnswerValue) : Type 0 where
  whole : TracesOnBoard limits span lines publics program answer → TracesOnBoardInPart limits span lines publics program answer
  first : (text : List ℕ) → BeginsTrace limits span lines publics program text → answer ≡ prints text 0 →
      TracesOnBoardInPart limits span lines publics program answer

pub record TracesBoardBy (Traces : Limits → Span → List Line → List Public → Runnable → AnswerValue → Type 0) (arguments : BoardTraceArguments)
    (files : List FileValue) (answer : AnswerValue) : Type 0 where
  pub limits : Limits
  pub are_limits : AreLimitsOf arguments.limits limits
  pub span : Span
  pub is_span : IsSpanOf arguments.span span
  pub answers : AnswersRunOnBoard (Traces limits span) arguments.files files answer

abbrev pub TracesBoardFiles : BoardTraceArguments → List FileValue → AnswerValue → Type 0
TracesBoardFiles = TracesBoardBy TracesOnBoard

-- what is given up of a trace
abbrev pub TracesBoardFilesInPart : BoardTraceArguments → List FileValue → AnswerValue → Type 0
TracesBoardFilesInPart = TracesBoardBy TracesOnBoardInPart

-- ---- cover

-- by address the instructions to which a program may come: those that walks reach, or those at which the states of its table stand
abbrev pub AreReachable : Runnable → List (Option Fetched) → Type 0
AreReachable (Accepted program) reached = AreReached (code_of program.image) reached
AreReachable (Followed image table) reached = AreFollowed image (places_of table []) reached

-- a text is the lines of a program's code: of the instructions to which it may come, with their counts, and of data; and the sums
pub record CoversProgram (program : Runnable) (counts text : List ℕ) : Type 0 where
  pub reached : List (Option Fetched)
  pub are_reachable : AreReachable program reached
  pub lines : text ≡ cover_lines true counts (image_of program).regions (memory_of (image_of program).chunks) reached ++ sums_line counts reached

-- The program's first line is printed, and behind it its code with the counts of its run on the board; the status is the run's.
pub record CoversOnBoard (limits : Limits) (lines : List Line) (publics : List Public) (program : Runnable) (answer : AnswerValue) : Type 0 where
  pub counts : BoardCounts
  pub counted : IsCounted lines (image_of program) limits counts
  pub listed : List ℕ
  pub covers : CoversProgram program counts.steps.items listed
  pub answer_is : answer ≡ prints (first_line program ++ labelled_text publics false listed) (board_end_status counts.ended.end)

-- what is printed of a run: its transcript, or the code with its counts
abbrev pub PrintsRun : RunOutput → Limits → List Line → List Public → Runnable → AnswerValue → Type 0
PrintsRun Transcript limits lines publics program answer = TranscribesRun limits lines publics program answer
PrintsRun Counts limits lines publics program answer = CoversOnBoard limits lines publics program answer

pub record RunsOnBoard (output : RunOutput) (arguments : BoardRunArguments) (files : List FileValue) (answer : AnswerValue) : Type 0 where
  pub limits : Limits
  pub are_limits : AreLimitsOf arguments.limits limits
  pub answers : AnswersRunOnBoard (PrintsRun output limits) arguments.files files answer
