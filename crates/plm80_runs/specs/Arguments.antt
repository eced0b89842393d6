-- Which argument of the command line each path and each flag of a command is.
use Rattle.std.specs.Prelude.{◌≡◌, ℕ, List, [], ◌∷◌, Option, Some, codes, option_map}
use Rattle.std.specs.Borrow.{Bor}
use Rattle.clap.specs.{declared.parser.matches.ArgMatches.ArgMatches, Matches.first_value, Matches.found_of}
use Rattle.plm80_boards.specs.Boards.{IsBoardPath}
use Rattle.plm80_console.specs.Arguments.{argument_text}
use Rattle.plm80_names.specs.Arguments.{AreNamedFiles}
use Rattle.plm80_runs.specs.declared.board_files.BoardFiles.{BoardFiles}
use Rattle.plm80_runs.specs.declared.board_run.BoardRunArguments.{BoardRunArguments}
use Rattle.plm80_runs.specs.declared.board_trace.BoardTraceArguments.{BoardTraceArguments}
use Rattle.plm80_runs.specs.{declared.cover.CoverArguments.CoverArguments, declared.run.RunArguments.RunArguments}
use Rattle.plm80_runs.specs.{declared.run_arguments.LimitTexts.LimitTexts, declared.run_arguments.RunFiles.RunFiles}
use Rattle.plm80_runs.specs.{declared.run_arguments.SpanTexts.SpanTexts, declared.trace.TraceArguments.TraceArguments}

-- the paths of an image, of its regions and of the inputs of its run, and whether names are asked for
pub record AreRunFiles (matches : ArgMatches) (files : RunFiles) : Type 0 where
  pub program : AreNamedFiles matches files.program
  pub inputs : files.inputs.now ≡ argument_text matches (codes "INPUTS")

-- the options that say how far an image runs
pub record AreLimitTexts (matches : ArgMatches) (texts : LimitTexts) : Type 0 where
  pub steps : texts.steps.text.now ≡ argument_text matches (codes "steps")
  pub outputs : texts.outputs.text.now ≡ argument_text matches (codes "outputs")

pub record AreCoverArguments (matches : ArgMatches) (arguments : CoverArguments) : Type 0 where
  pub files : AreRunFiles matches arguments.files
  pub limits : AreLimitTexts matches arguments.limits

-- the options that say which instructions are shown
pub record AreSpanTexts (matches : ArgMatches) (texts : SpanTexts) : Type 0 where
  pub from : texts.from.text.now ≡ argument_text matches (codes "from")
  pub count : texts.count.text.now ≡ argument_text matches (codes "count")

pub record AreTraceArguments (matches : ArgMatches) (arguments : TraceArguments) : Type 0 where
  pub files : AreRunFiles matches arguments.files
  pub limits : AreLimitTexts matches arguments.limits
  pub span : AreSpanTexts matches arguments.span

-- the paths of a run's files, in the order in which they are read
abbrev pub run_paths : RunFiles → List (List ℕ)
run_paths files = files.program.image.now ∷ files.program.regions.now ∷ files.inputs.now ∷ []

-- the path of the memory's file, if one is asked for
abbrev pub dump_path : Option (Bor (List ℕ)) → Option (List ℕ)
dump_path path = option_map (λ p. p.now) path

abbrev pub dump_of : RunArguments → Option (List ℕ)
dump_of arguments = dump_path arguments.dump

pub record AreRunArguments (matches : ArgMatches) (arguments : RunArguments) : Type 0 where
  pub files : AreRunFiles matches arguments.files
  pub limits : AreLimitTexts matches arguments.limits
  pub last : arguments.last.text.now ≡ argument_text matches (codes "last")
  pub dump : dump_of arguments ≡ first_value (found_of matches) (codes "dump")

-- the paths of a board, of an image and of its regions, and whether names are asked for
pub record AreBoardFiles (matches : ArgMatches) (files : BoardFiles) : Type 0 where
  pub program : AreNamedFiles matches files.program
  pub board : IsBoardPath matches (Some files.board)

pub record AreBoardTraceArguments (matches : ArgMatches) (arguments : BoardTraceArguments) : Type 0 where
  pub files : AreBoardFiles matches arguments.files
  pub limits : AreLimitTexts matches arguments.limits
  pub span : AreSpanTexts matches arguments.span

-- the arguments of a run on a board
pub record AreBoardRunArguments (matches : ArgMatches) (arguments : BoardRunArguments) : Type 0 where
  pub files : AreBoardFiles matches arguments.files
  pub limits : AreLimitTexts matches arguments.limits
