-- What commands print of a run, and how it is left. (That a run's transcript goes on with its last instructions, and the exit statuses,
-- are this project's own.)
use Rattle.std.specs.Prelude.{◌≡◌, ℕ, ◌+◌, ◌-◌, ◌==◌, ◌&&◌, not, is_none, min, Bool, true, false, List, [], ◌∷◌, ◌++◌, ◌≢◌, Option, None, Some}
use Rattle.std.specs.Prelude.{Result, Ok, Err, codes}
use Rattle.std.specs.Bool.{MatchBool}
use Rattle.omf_model.specs.declared.symbols.Public.{Public}
use Rattle.image80.specs.{declared.range.Range.Range, Image.Located}
use Rattle.image80_text.specs.NameText.{labelled_text, named_text}
use Rattle.machine80.specs.{Ports.lists_of, World.World, World.world_at_start}
use Rattle.loader80.specs.declared.fault.SessionFault.TheVariants.{Image, Regions, Inputs, Refused}
use Rattle.loader80.specs.InputsText.{bad_line, inputs_of}
use Rattle.loader80.specs.{declared.replies.Outcome.Outcome, declared.running.Ended.Ended, declared.fault.SessionFault.SessionFault}
use Rattle.loader80.specs.{Session.IsTranscript, Session.Says, Texts.Texts, TranscriptText.end_line}
use Rattle.verify80.specs.Vouched.{Voucher}
use Rattle.loader80_trace.specs.Traces.{EndsSo, IsTraced, count_within, last_number, run_lines}
use Rattle.loader80_trace.specs.{Counts.CountsSteps, Cover.CoversReached, declared.limits.Limits.Limits, declared.limits.Span.Span}
use Rattle.plm80_console.specs.Journal.{FileValue, Journal, and_read}
use Rattle.plm80_console.specs.{Answer.AnswerValue, Answer.behind_file, Answer.prints, declared.options.OptionText.OptionText}
use Rattle.plm80_console.specs.NumberText.{IsCountText, count_value}
use Rattle.plm80_names.specs.Verdict.{AnswersVerdict, AreOfFiles}
use Rattle.plm80_console.specs.declared.read_file.ReadFile.{ReadFile}
use Rattle.plm80_runs.specs.declared.cover.CoverArguments.{CoverArguments}
use Rattle.plm80_runs.specs.declared.run_arguments.LimitTexts.{LimitTexts}
use Rattle.plm80_runs.specs.declared.run_arguments.RunFiles.{RunFiles}
use Rattle.plm80_runs.specs.declared.run.RunArguments.{RunArguments}
use Rattle.plm80_runs.specs.declared.trace.TraceArguments.{TraceArguments}
use Rattle.plm80_runs.specs.declared.run_arguments.RunTexts.{RunTexts}
use Rattle.plm80_runs.specs.declared.run_arguments.SpanTexts.{SpanTexts}
use Rattle.plm80_runs.specs.Arguments.{dump_of}
use Rattle.plm80_bundles.specs.Status.{end_status}

-- where a program's run on some inputs begins
abbrev pub start_of : Voucher → List (ℕ × ℕ) → World
start_of program inputs = world_at_start program.image (lists_of inputs) []

-- ---- the last line

-- the line of an end, with the name of the address that it has
abbrev pub named_ending : List Range → List Public → List ℕ → List ℕ
named_ending code publics line =
    named_text code publics (codes "JUMP ") (named_text code publics (codes "STORE ") (named_text code publics (codes "HALT ") line))

-- how a run ended: its last line with a name, and its exit status
abbrev pub ending : Voucher → List Public → Ended → AnswerValue
ending program publics ended =
    prints (named_ending program.image.regions.code publics (end_line ended.end ended.cpu.pc ended.steps)) (end_status ended.end)

-- ---- trace

-- what is printed behind the lines of a run: its last line, if they reached it; else nothing, and the status is 0
abbrev pub trace_ending : Voucher → List Public → Option Ended → AnswerValue
trace_ending program publics None = prints [] 0
trace_ending program publics (Some ended) = ending program publics ended

-- the lines of a span of a run's instructions
abbrev pub trace_lines : List (ℕ × ℕ) → Limits → Span → (numbered : Bool) → List Public → Voucher → List ℕ
trace_lines inputs limits span numbered publics program =
    run_lines program.image.regions (Some limits.outputs) (start_of program inputs) publics numbered span.from
    (count_within limits.steps span.from span.count)

-- the lines of a span reached the end of the run, which is this, or ran out first
abbrev pub IsTraceOf : List (ℕ × ℕ) → Limits → Span → Voucher → Option Ended → Type 0
IsTraceOf inputs limits span program ended =
    IsTraced program.image.regions (Some limits.outputs) (start_of program inputs) limits.steps span.from span.count ended

-- the lines are printed, and behind them how the run ended, if they reached that
pub record TracesRun (inputs : List (ℕ × ℕ)) (limits : Limits) (span : Span) (publics : List Public) (program : Voucher) (answer : AnswerValue) : Type 0 where
  pub ended : Option Ended
  pub traced : IsTraceOf inputs limits span program ended
  pub answer_is : answer ≡ record (trace_ending program publics ended) { first = trace_lines inputs limits span true publics program }

-- what a trace is that is given up: that, or the lines, as far as they came
pub data TracesPart (inputs : List (ℕ × ℕ)) (limits : Limits) (span : Span) (publics : List Public) (program : Voucher) (answer : AnswerValue) : Type 0 where
  whole : TracesRun inputs limits span publics program answer → TracesPart inputs limits span publics program answer
  lines : answer ≡ prints (trace_lines inputs limits span true publics program) 0 → TracesPart inputs limits span publics program answer

-- ---- run

-- the last instructions of a run that ended so, a given number of them at most
abbrev pub last_lines : List (ℕ × ℕ) → Limits → (last : ℕ) → List Public → Voucher → Ended → List ℕ
last_lines inputs limits last publics program ended =
    let count = min last (last_number ended.end ended.steps + 1) in
    run_lines program.image.regions (Some limits.outputs) (start_of program inputs) publics false
    (last_number ended.end ended.steps + 1 - count) count

-- an answer behind the file of a memory, if one is asked for
abbrev pub with_memory : (dump : Option (List ℕ)) → (memory : List ℕ) → AnswerValue → AnswerValue
with_memory None memory answer = answer
with_memory (Some path) memory answer = behind_file path memory answer

-- The transcript of a program's run is a front part and its last line. The front part is written, and the last instructions behind it;
-- then the memory that the run leaves is written to its file, and then the last line is printed, with a name.
pub record WatchesRun (inputs : List (ℕ × ℕ)) (limits : Limits) (last : ℕ) (dump : Option (List ℕ)) (publics : List Public)
    (program : Voucher) (text : List ℕ) (ended : Ended) (answer : AnswerValue) : Type 0 where
  pub front : List ℕ
  pub transcript : IsTranscript program.image (lists_of inputs) limits.outputs limits.steps
      (record { stack_bytes = program.stack_bytes; end = ended.end; steps = ended.steps; at = ended.cpu.pc })
      (front ++ end_line ended.end ended.cpu.pc ended.steps)
  pub text_is : text ≡ front ++ last_lines inputs limits last publics program ended
  pub answer_is : answer ≡ with_memory dump transcript.last.memory (ending program publics ended)

-- all of this together
pub record EndsRun (inputs : List (ℕ × ℕ)) (limits : Limits) (last : ℕ) (dump : Option (List ℕ)) (publics : List Public)
    (program : Voucher) (answer : AnswerValue) : Type 0 where
  pub text : List ℕ
  pub ended : Ended
  pub behind : AnswerValue
  pub watched : WatchesRun inputs limits last dump publics program text ended behind
  pub answer_is : answer ≡ record behind { first = text }

-- ---- three files

-- three files were read: an image, its regions, and the text of the inputs of its run
pub record IsRunRead (paths : RunFiles) (old new : Journal) (image : Located) (publics : List Public) (inputs : List (ℕ × ℕ)) : Type 0 where
  pub file : List ℕ
  pub text : List ℕ
  pub spelling : List ℕ
  pub are_read : AreOfFiles paths.program.names file text image publics
  pub journal : new ≡ and_read (and_read (and_read old paths.program.image.now file) paths.program.regions.now text) paths.inputs.now spelling
  pub good : bad_line spelling ≡ None
  pub spelled : inputs ≡ inputs_of spelling

-- the first three of these files are no image, no regions of it or no inputs of its run
abbrev pub HaveNoRun : (asked : Bool) → List FileValue → Type 0
HaveNoRun asked (file ∷ text ∷ inputs ∷ files) =
    (image : Located) (publics : List Public) → AreOfFiles asked file.bytes text.bytes image publics → bad_line inputs.bytes ≢ None
HaveNoRun asked files = ⊥

-- an answer to an image, its regions and its names, and the inputs of its run, as three files have them
pub record AnswersRun (Answers : List (ℕ × ℕ) → List Public → Voucher → AnswerValue → Type 0) (asked : Bool) (files : List FileValue)
    (answer : AnswerValue) : Type 0 where
  pub image_file : FileValue
  pub regions_file : FileValue
  pub inputs_file : FileValue
  pub files_are : files ≡ image_file ∷ regions_file ∷ inputs_file ∷ []
  pub image : Located
  pub publics : List Public
  pub are_read : AreOfFiles asked image_file.bytes regions_file.bytes image publics
  pub good : bad_line inputs_file.bytes ≡ None
  pub answers : AnswersVerdict (Answers (inputs_of inputs_file.bytes) publics) image publics answer

-- ---- a session

-- the texts of a session, as files that were read
abbrev pub texts_of : RunTexts → Texts
texts_of texts = record {
  image = texts.program.image.bytes.items;
  regions = texts.program.regions.bytes.items;
  inputs = texts.inputs.bytes.items;
}

abbrev pub run_files : RunFiles → RunTexts → List FileValue
run_files paths texts = record { path = paths.program.image.now; bytes = texts.program.image.bytes.items }
    ∷ record { path = paths.program.regions.now; bytes = texts.program.regions.bytes.items }
    ∷ record { path = paths.inputs.now; bytes = texts.inputs.bytes.items } ∷ []

-- the exit status of a session: that of the run's end, or 1 of a refusal; every other fault has none
abbrev pub session_status : Result Outcome SessionFault → Result ℕ SessionFault
session_status (Ok outcome) = Ok (end_status outcome.end)
session_status (Err (Refused refusal)) = Ok 1
session_status (Err fault) = Err fault

-- what it says of the texts is printed, and nothing before it
pub record AnswersTexts (limits : Limits) (texts : Texts) (answer : AnswerValue) : Type 0 where
  pub said : Result Outcome SessionFault
  pub says : Says limits.outputs limits.steps texts said answer.lines
  pub status_is : session_status said ≡ Ok answer.status
  pub no_first : answer.first ≡ []
  pub no_file : answer.files ≡ []

pub record AnswersSession (limits : Limits) (files : List FileValue) (answer : AnswerValue) : Type 0 where
  pub image : FileValue
  pub regions : FileValue
  pub inputs : FileValue
  pub files_are : files ≡ image ∷ regions ∷ inputs ∷ []
  pub answers : AnswersTexts limits (record { image = image.bytes; regions = regions.bytes; inputs = inputs.bytes }) answer

-- ---- limits

-- the number that an option writes, in decimal digits
abbrev pub WritesCount : OptionText → (count : ℕ) → Type 0
WritesCount option count = IsCountText option.text.now × (count ≡ count_value option.text.now)

-- how long a run may last, as the options write it
pub record AreLimitsOf (texts : LimitTexts) (limits : Limits) : Type 0 where
  pub steps : WritesCount texts.steps limits.steps
  pub outputs : WritesCount texts.outputs limits.outputs

abbrev pub HaveNoLimits : LimitTexts → Type 0
HaveNoLimits texts = (limits : Limits) → AreLimitsOf texts limits → ⊥

-- which of its instructions are shown
pub record IsSpanOf (texts : SpanTexts) (span : Span) : Type 0 where
  pub from : WritesCount texts.from span.from
  pub count : WritesCount texts.count span.count

abbrev pub HaveNoSpan : SpanTexts → Type 0
HaveNoSpan texts = (span : Span) → IsSpanOf texts span → ⊥

-- ---- commands, by their arguments

-- the instructions to which the program may come, with how often its run on these inputs began each; the status is the run's
pub record CountsRun (inputs : List (ℕ × ℕ)) (limits : Limits) (publics : List Public) (program : Voucher) (answer : AnswerValue) : Type 0 where
  pub ended : Ended
  pub run : EndsSo program.image.regions (Some limits.outputs) (world_at_start program.image (lists_of inputs) []) limits.steps ended
  pub counts : List ℕ
  pub counted : CountsSteps program.image.regions (Some limits.outputs) (world_at_start program.image (lists_of inputs) []) ended.steps counts
  pub listed : List ℕ
  pub covers : CoversReached program.image counts listed
  pub answer_is : answer ≡ prints (labelled_text publics false listed) (end_status ended.end)

pub record CoversFiles (arguments : CoverArguments) (files : List FileValue) (answer : AnswerValue) : Type 0 where
  pub limits : Limits
  pub are_limits : AreLimitsOf arguments.limits limits
  pub answers : AnswersRun (λ inputs. CountsRun inputs limits) arguments.files.program.names files answer

pub record TracesBy (Traces : List (ℕ × ℕ) → Limits → Span → List Public → Voucher → AnswerValue → Type 0) (arguments : TraceArguments)
    (files : List FileValue) (answer : AnswerValue) : Type 0 where
  pub limits : Limits
  pub are_limits : AreLimitsOf arguments.limits limits
  pub span : Span
  pub is_span : IsSpanOf arguments.span span
  pub answers : AnswersRun (λ inputs. Traces inputs limits span) arguments.files.program.names files answer

abbrev pub TracesFiles : TraceArguments → List FileValue → AnswerValue → Type 0
TracesFiles = TracesBy TracesRun

-- what is given up of it
abbrev pub TracesFilesInPart : TraceArguments → List FileValue → AnswerValue → Type 0
TracesFilesInPart = TracesBy TracesPart

-- nothing but the transcript is asked for: no instructions, no memory and no names
abbrev pub is_session : RunArguments → (last : ℕ) → Bool
is_session arguments last = (last == 0 && is_none arguments.dump) && not arguments.files.program.names

-- a run is watched if its last instructions, its memory or names are asked for
pub record RunsFiles (arguments : RunArguments) (files : List FileValue) (answer : AnswerValue) : Type 0 where
  pub limits : Limits
  pub are_limits : AreLimitsOf arguments.limits limits
  pub last : ℕ
  pub is_last : WritesCount arguments.last last
  pub answers : MatchBool (is_session arguments last) (AnswersSession limits files answer)
      (AnswersRun (λ inputs. EndsRun inputs limits last (dump_of arguments)) arguments.files.program.names files answer)

-- ---- faults

-- the file that a fault of a session is of; none if it is of no file's bytes
abbrev pub fault_file : RunTexts → SessionFault → Option ReadFile
fault_file texts (Image f) = Some texts.program.image
fault_file texts (Regions f) = Some texts.program.regions
fault_file texts (Inputs n) = Some texts.inputs
fault_file texts _ = None
