-- Which argument of the command line each path and each flag of a command is.
use Rattle.std.specs.Prelude.{◌≡◌, true, codes, map}
use Rattle.clap.specs.declared.parser.matches.ArgMatches.{ArgMatches}
use Rattle.plm80_console.specs.Arguments.{argument_text, argument_values}
use Rattle.plm80_boards.specs.Boards.{IsBoardPath}
use Rattle.plm80_names.specs.Arguments.{AreNamedFiles, IsFlag}
use Rattle.plm80_programs.specs.{declared.calls.CallsArguments.CallsArguments, declared.check.CheckArguments.CheckArguments}
use Rattle.plm80_programs.specs.{declared.explain.ExplainArguments.ExplainArguments}
use Rattle.plm80_programs.specs.{declared.follow.FollowArguments.FollowArguments, declared.list.ListArguments.ListArguments}
use Rattle.plm80_programs.specs.{declared.report.ReportArguments.ReportArguments, declared.stores.StoresArguments.StoresArguments}

pub record AreListArguments (matches : ArgMatches) (arguments : ListArguments) : Type 0 where
  pub files : AreNamedFiles matches arguments.files
  pub reached : IsFlag matches (codes "reached") arguments.reached
  pub source : IsFlag matches (codes "asm") arguments.source

pub record AreCheckArguments (matches : ArgMatches) (arguments : CheckArguments) : Type 0 where
  pub files : AreNamedFiles matches arguments.files
  pub board : IsBoardPath matches arguments.board

pub record AreExplainArguments (matches : ArgMatches) (arguments : ExplainArguments) : Type 0 where
  pub files : AreNamedFiles matches arguments.files
  pub all : IsFlag matches (codes "all") arguments.all
  pub board : IsBoardPath matches arguments.board

pub record AreCallsArguments (matches : ArgMatches) (arguments : CallsArguments) : Type 0 where
  pub files : AreNamedFiles matches arguments.files
  pub dot : IsFlag matches (codes "dot") arguments.dot
  pub board : IsBoardPath matches arguments.board

-- names are always read
pub record AreReportArguments (matches : ArgMatches) (arguments : ReportArguments) : Type 0 where
  pub image : arguments.files.image.now ≡ argument_text matches (codes "IMAGE")
  pub regions : arguments.files.regions.now ≡ argument_text matches (codes "REGIONS")
  pub names : arguments.files.names ≡ true
  pub out : arguments.out.now ≡ argument_text matches (codes "OUT")

pub record AreStoresArguments (matches : ArgMatches) (arguments : StoresArguments) : Type 0 where
  pub files : AreNamedFiles matches arguments.files
  pub quiet : map (λ range. range.now) arguments.quiet.items ≡ argument_values matches (codes "quiet-ram")
  pub board : IsBoardPath matches arguments.board

pub record AreFollowArguments (matches : ArgMatches) (arguments : FollowArguments) : Type 0 where
  pub files : AreNamedFiles matches arguments.files
  pub quiet : map (λ range. range.now) arguments.quiet.items ≡ argument_values matches (codes "quiet-ram")
  pub lists : IsFlag matches (codes "list") arguments.lists
  pub interrupted : IsFlag matches (codes "interrupted") arguments.interrupted
  pub handlers : map (λ handler. handler.now) arguments.handlers.items ≡ argument_values matches (codes "handler")
  pub board : IsBoardPath matches arguments.board
