-- What each request is, and what is done for it. (The commands and their statuses are this project's own.)
use Rattle.std.specs.Prelude.{◌≡◌, ◌⊎◌, ℕ, Bool, true, false, List, [], ◌∷◌, ◌++◌, None, Some, Option, String, map, codes, string_bytes}
use Rattle.std.specs.Str.{bytes_eq}
use Rattle.clap.specs.{declared.parser.matches.ArgMatches.ArgMatches, Matches.first_value, Matches.found_of, Simple.subcommand_of, Walk.Row, Walk.rows_of}
use Rattle.plm80_console.specs.Journal.{Blames, FileValue, Journal}
use Rattle.plm80_console.specs.{Answer.AnswerValue, Answer.Gives, Answer.GivesUp, Arguments.argument_text}
use Rattle.plm80_objects.specs.declared.library.LibraryArguments.{LibraryArguments}
use Rattle.plm80_boards.specs.Boards.{WithBoard, board_paths}
use Rattle.plm80_names.specs.{Arguments.asks_names, Arguments.program_paths, Verdict.AnswersProgram}
use Rattle.plm80_objects.specs.Absolute.{ExtractsFile, WritesDumps, dump_paths}
use Rattle.plm80_objects.specs.Arguments.{AreAbsoluteArguments, AreCompareArguments, AreExtractArguments, AreFindArguments, AreLibraryArguments, AreLinkArguments, AreLocateArguments, AreMapArguments}
use Rattle.plm80_objects.specs.Modules.{AnswersModules, DescribesModules, GivesUpLibrary, LocatesFile, MapsFile, WritesLibrary}
use Rattle.plm80_objects.specs.{Compare.ComparesFiles, Find.FindsModules, Link.LinksFiles}
use Rattle.plm80_programs.specs.Arguments.{AreCallsArguments, AreCheckArguments, AreExplainArguments, AreFollowArguments, AreListArguments, AreReportArguments, AreStoresArguments}
use Rattle.plm80_regions.specs.Arguments.{AreCasesArguments, AreRegionsArguments, cases_path}
use Rattle.plm80_runs.specs.Arguments.{AreBoardRunArguments, AreBoardTraceArguments, AreCoverArguments, AreRunArguments, AreTraceArguments, run_paths}
use Rattle.plm80_programs.specs.Following.{AnswersFollowing}
use Rattle.plm80_programs.specs.Pages.{AnswersPage}
use Rattle.plm80_programs.specs.Printed.{AnswersStores, PrintsCalls, PrintsListing, PrintsReport}
use Rattle.plm80_runs.specs.{Running.CoversFiles, Running.RunsFiles, Running.TracesFiles, Running.TracesFilesInPart}
use Rattle.plm80_runs.specs.declared.board_run.RunOutput.TheVariants.{Transcript, Counts}
use Rattle.plm80_runs.specs.OnBoards.{RunsOnBoard, TracesBoardFiles, TracesBoardFilesInPart, board_program_paths}
use Rattle.plm80_regions.specs.Cases.{AnswersCases, AnswersCasesInPart}
use Rattle.plm80_runs.specs.InputWords.{AnswersWords, AreInputsArguments}
use Rattle.plm80_programs.specs.Explanations.{PrintsExplanation}
use Rattle.plm80_regions.specs.Suggest.{AnswersAdvice, AreSuggestArguments}
use Rattle.plm80_regions.specs.Written.{AnswersRegions}
use Rattle.plm80.specs.{Apart.AreApartIn, CommandLine.IsUntaken, CommandLine.joined_words, CommandLine.plm80_app, declared.commands.arguments.Request.Request}
use Rattle.plm80.specs.declared.commands.arguments.NoRequest.{NoRequest, TheVariants.Refused, TheVariants.Untaken}
use Rattle.plm80.specs.declared.commands.arguments.Request.TheVariants as request

-- its name on the command line
abbrev pub command_name : Request → List ℕ
command_name (request.Link arguments) = codes "link"
command_name (request.Locate arguments) = codes "locate"
command_name (request.Run arguments) = codes "run"
command_name (request.RunOnBoard arguments) = codes "run"
command_name (request.List arguments) = codes "list"
command_name (request.Check arguments) = codes "check"
command_name (request.Explain arguments) = codes "explain"
command_name (request.Library arguments) = codes "lib"
command_name (request.Regions arguments) = codes "regions"
command_name (request.Cases arguments) = codes "cases"
command_name (request.Map arguments) = codes "map"
command_name (request.Extract arguments) = codes "extract"
command_name (request.Absolute arguments) = codes "absolute"
command_name (request.Stores arguments) = codes "stores"
command_name (request.Follow arguments) = codes "follow"
command_name (request.Compare arguments) = codes "compare"
command_name (request.Inputs arguments) = codes "inputs"
command_name (request.Calls arguments) = codes "calls"
command_name (request.Trace arguments) = codes "trace"
command_name (request.TraceOnBoard arguments) = codes "trace"
command_name (request.Cover arguments) = codes "cover"
command_name (request.CoverOnBoard arguments) = codes "cover"
command_name (request.Module arguments) = codes "module"
command_name (request.Find arguments) = codes "find"
command_name (request.Suggest arguments) = codes "suggest"
command_name (request.Report arguments) = codes "report"

-- its arguments are those that clap has read of its subcommand
abbrev pub AreArgumentsOf : ArgMatches → Request → Type 0
AreArgumentsOf matches (request.Link arguments) = AreLinkArguments matches arguments
AreArgumentsOf matches (request.Locate arguments) = AreLocateArguments matches arguments
AreArgumentsOf matches (request.Run arguments) = AreRunArguments matches arguments × (first_value (found_of matches) (codes "board") ≡ None)
AreArgumentsOf matches (request.RunOnBoard arguments) = AreBoardRunArguments matches arguments
AreArgumentsOf matches (request.List arguments) = AreListArguments matches arguments
AreArgumentsOf matches (request.Check arguments) = AreCheckArguments matches arguments
AreArgumentsOf matches (request.Explain arguments) = AreExplainArguments matches arguments
AreArgumentsOf matches (request.Library arguments) = AreLibraryArguments matches arguments
AreArgumentsOf matches (request.Regions arguments) = AreRegionsArguments matches arguments
AreArgumentsOf matches (request.Cases arguments) = AreCasesArguments matches arguments
AreArgumentsOf matches (request.Map arguments) = AreMapArguments matches arguments
AreArgumentsOf matches (request.Extract arguments) = AreExtractArguments matches arguments
AreArgumentsOf matches (request.Absolute arguments) = AreAbsoluteArguments matches arguments
AreArgumentsOf matches (request.Stores arguments) = AreStoresArguments matches arguments
AreArgumentsOf matches (request.Follow arguments) = AreFollowArguments matches arguments
AreArgumentsOf matches (request.Compare arguments) = AreCompareArguments matches arguments
AreArgumentsOf matches (request.Inputs arguments) = AreInputsArguments matches arguments
AreArgumentsOf matches (request.Calls arguments) = AreCallsArguments matches arguments
AreArgumentsOf matches (request.Trace arguments) = AreTraceArguments matches arguments × (first_value (found_of matches) (codes "board") ≡ None)
AreArgumentsOf matches (request.TraceOnBoard arguments) = AreBoardTraceArguments matches arguments
AreArgumentsOf matches (request.Cover arguments) = AreCoverArguments matches arguments × (first_value (found_of matches) (codes "board") ≡ None)
AreArgumentsOf matches (request.CoverOnBoard arguments) = AreBoardRunArguments matches arguments
AreArgumentsOf matches (request.Module arguments) = arguments.object.now ≡ argument_text matches (codes "FILE")
AreArgumentsOf matches (request.Find arguments) = AreFindArguments matches arguments
AreArgumentsOf matches (request.Suggest arguments) = AreSuggestArguments matches arguments
AreArgumentsOf matches (request.Report arguments) = AreReportArguments matches arguments

-- it is that of a command with the values of its arguments, as clap has read both; letter for letter no written path is another one's,
-- but regions may replace regions
pub record IsRequestOf (read : Option (List ℕ × List Row)) (request : Request) : Type 0 where
  pub arguments : ArgMatches
  pub is_read : read ≡ Some (command_name request, rows_of (found_of arguments))
  pub are : AreArgumentsOf arguments request
  pub apart : AreApartIn arguments request

-- whether clap doesn't take the words
abbrev pub is_of_words : NoRequest → Bool
is_of_words (Untaken error) = true
is_of_words (Refused error) = false

-- what is done for it, by verbs: answers that are given whole to the files of these paths, or of which a front part may be; and a library that is
-- written
abbrev pub Does : (Whole : (Answers : List FileValue → AnswerValue → Type 0) → (paths : List (List ℕ)) → Type 0)
    → (InPart : (Answers Begun : List FileValue → AnswerValue → Type 0) → (paths : List (List ℕ)) → Type 0)
    → (Library : LibraryArguments → Type 0) → Request → Type 0
Does Whole InPart Library (request.Link arguments) = Whole (LinksFiles arguments) (map (λ path. path.now) arguments.files.items)
Does Whole InPart Library (request.Locate arguments) = Whole (WithBoard arguments.board (LocatesFile arguments)) (board_paths arguments.board ++ arguments.object.now ∷ [])
Does Whole InPart Library (request.Run arguments) = Whole (RunsFiles arguments) (run_paths arguments.files)
Does Whole InPart Library (request.RunOnBoard arguments) = Whole (RunsOnBoard Transcript arguments) (board_program_paths arguments.files)
Does Whole InPart Library (request.List arguments) = Whole (AnswersProgram (PrintsListing arguments.reached arguments.source) (asks_names arguments.files)) (program_paths arguments.files)
Does Whole InPart Library (request.Check arguments) = Whole (WithBoard arguments.board (λ _. AnswersProgram PrintsReport (asks_names arguments.files))) (board_paths arguments.board ++ program_paths arguments.files)
Does Whole InPart Library (request.Explain arguments) = Whole (WithBoard arguments.board (λ _. AnswersProgram (PrintsExplanation arguments.all) (asks_names arguments.files))) (board_paths arguments.board ++ program_paths arguments.files)
Does Whole InPart Library (request.Library arguments) = Library arguments
Does Whole InPart Library (request.Regions arguments) = Whole (AnswersRegions arguments.new.now) (arguments.old.now ∷ [])
Does Whole InPart Library (request.Cases arguments) = InPart (AnswersCases (cases_path arguments)) (AnswersCasesInPart (cases_path arguments)) (arguments.image.now ∷ arguments.regions.now ∷ [])
Does Whole InPart Library (request.Map arguments) = Whole (MapsFile arguments) (arguments.object.now ∷ [])
Does Whole InPart Library (request.Extract arguments) = Whole (ExtractsFile arguments) (arguments.image.now ∷ [])
Does Whole InPart Library (request.Absolute arguments) = Whole (WritesDumps arguments) (dump_paths arguments)
Does Whole InPart Library (request.Stores arguments) = Whole (WithBoard arguments.board (AnswersStores arguments)) (board_paths arguments.board ++ program_paths arguments.files)
Does Whole InPart Library (request.Follow arguments) = Whole (WithBoard arguments.board (AnswersFollowing arguments)) (board_paths arguments.board ++ program_paths arguments.files)
Does Whole InPart Library (request.Compare arguments) = Whole (ComparesFiles arguments) (arguments.image.now ∷ arguments.dump.now ∷ [])
Does Whole InPart Library (request.Inputs arguments) = Whole (AnswersWords arguments) []
Does Whole InPart Library (request.Calls arguments) = Whole (WithBoard arguments.board (λ _. AnswersProgram (PrintsCalls arguments.dot) (asks_names arguments.files))) (board_paths arguments.board ++ program_paths arguments.files)
Does Whole InPart Library (request.Trace arguments) = InPart (TracesFiles arguments) (TracesFilesInPart arguments) (run_paths arguments.files)
Does Whole InPart Library (request.TraceOnBoard arguments) = InPart (TracesBoardFiles arguments) (TracesBoardFilesInPart arguments) (board_program_paths arguments.files)
Does Whole InPart Library (request.Cover arguments) = Whole (CoversFiles arguments) (run_paths arguments.files)
Does Whole InPart Library (request.CoverOnBoard arguments) = Whole (RunsOnBoard Counts arguments) (board_program_paths arguments.files)
Does Whole InPart Library (request.Module arguments) = Whole (AnswersModules DescribesModules) (arguments.object.now ∷ [])
Does Whole InPart Library (request.Find arguments) = Whole (FindsModules arguments) (arguments.dump.now ∷ map (λ path. path.now) arguments.files.items)
Does Whole InPart Library (request.Suggest arguments) = Whole (WithBoard arguments.board (AnswersAdvice arguments)) (board_paths arguments.board ++ arguments.image.now ∷ [])
Does Whole InPart Library (request.Report arguments) = Whole (AnswersProgram (AnswersPage arguments.out.now) arguments.files.names) (program_paths arguments.files)

-- it is done: its files were read, its answer was given, and the status is the answer's
abbrev pub IsPerformed : Request → (old new : Journal) → (status : ℕ) → Type 0
IsPerformed request old new status = Does (λ Answers paths. Gives Answers paths old new status) (λ Answers Begun paths. Gives Answers paths old new status)
    (λ arguments. WritesLibrary arguments old new status) request

-- it isn't: a fault was reported, once, and what was written and printed before is part of its answer
abbrev pub IsFailed : Request → (old new : Journal) → Type 0
IsFailed request old new = Does (λ Answers paths. GivesUp Answers paths old new) (λ Answers Begun paths. GivesUp Begun paths old new)
    (λ arguments. GivesUpLibrary arguments old new) request

-- one of both, with the exit status
abbrev pub IsDone : Request → (old new : Journal) → (status : ℕ) → Type 0
IsDone request old new status = IsPerformed request old new status ⊎ ((status ≡ 2) × IsFailed request old new)

-- what comes of a command line of these words: help or what is wrong with them was printed, which blames them only if clap doesn't take
-- them; or the request that they spell is done
abbrev pub IsCommandDone : (words : List (List ℕ)) → (old new : Journal) → (status : ℕ) → Type 0
IsCommandDone words old new status = ((status ≡ 2) × Blames (IsUntaken (joined_words words)) old new)
    ⊎ ((request : Request) × IsRequestOf (subcommand_of plm80_app (joined_words words)) request × IsDone request old new status)

-- the program's name alone, or `--why` alone behind it, asks for a bundle; every other command line for a command
abbrev pub asks_bundle : {Z : Type 0} → List (String Z) → Bool
asks_bundle [] = true
asks_bundle (name ∷ []) = true
asks_bundle (name ∷ why ∷ []) = bytes_eq (string_bytes why) (codes "--why")
asks_bundle (name ∷ why ∷ more ∷ words) = false
