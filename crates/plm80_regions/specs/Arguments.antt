-- Which argument of the command line each path and each flag of a command is.
use Rattle.std.specs.Prelude.{◌≡◌, ℕ, List, Option, codes, option_map}
use Rattle.clap.specs.{declared.parser.matches.ArgMatches.ArgMatches, Matches.first_value, Matches.found_of}
use Rattle.plm80_console.specs.Arguments.{argument_text}
use Rattle.plm80_regions.specs.{declared.cases.CasesArguments.CasesArguments, declared.regions.RegionsArguments.RegionsArguments}

pub record AreRegionsArguments (matches : ArgMatches) (arguments : RegionsArguments) : Type 0 where
  pub old : arguments.old.now ≡ argument_text matches (codes "OLD")
  pub new : arguments.new.now ≡ argument_text matches (codes "NEW")

pub record AreCasesArguments (matches : ArgMatches) (arguments : CasesArguments) : Type 0 where
  pub image : arguments.image.now ≡ argument_text matches (codes "IMAGE")
  pub regions : arguments.regions.now ≡ argument_text matches (codes "REGIONS")
  pub out : option_map (λ path. path.now) arguments.out ≡ first_value (found_of matches) (codes "out")

-- the path of the file that gets the regions with their cases, if one is given
abbrev pub cases_path : CasesArguments → Option (List ℕ)
cases_path arguments = option_map (λ path. path.now) arguments.out
