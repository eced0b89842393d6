-- Which argument of the command line each path and each flag is.
use Rattle.std.specs.Prelude.{◌≡◌, ℕ, Bool, true, false, None, Some, List, [], ◌∷◌, codes}
use Rattle.clap.specs.{declared.parser.matches.ArgMatches.ArgMatches, Matches.found_of, Matches.one_text}
use Rattle.plm80_console.specs.Arguments.{argument_text}
use Rattle.plm80_names.specs.declared.named_files.NamedFiles.{NamedFiles}

-- whether a flag is given
pub record IsFlag (matches : ArgMatches) (name : List ℕ) (given : Bool) : Type 0 where
  pub missing : one_text (found_of matches) name ≡ None → given ≡ false
  pub set : one_text (found_of matches) name ≡ Some (codes "true") → given ≡ true
  pub unset : one_text (found_of matches) name ≡ Some (codes "false") → given ≡ false

pub record AreNamedFiles (matches : ArgMatches) (files : NamedFiles) : Type 0 where
  pub image : files.image.now ≡ argument_text matches (codes "IMAGE")
  pub regions : files.regions.now ≡ argument_text matches (codes "REGIONS")
  pub names : IsFlag matches (codes "names") files.names

-- whether names are asked for
abbrev pub asks_names : NamedFiles → Bool
asks_names files = files.names

-- the paths of both files, in the order in which they are read
abbrev pub program_paths : NamedFiles → List (List ℕ)
program_paths files = files.image.now ∷ files.regions.now ∷ []
