-- The texts of arguments, as clap has read them.
use Rattle.std.specs.Prelude.{ℕ, List, [], unwrap_or, option_map}
use Rattle.clap.specs.declared.parser.matches.ArgMatches.{ArgMatches}
use Rattle.clap.specs.Matches.{first_value, found_of, matched_of, raw_values}

-- the text of an argument that clap requires; empty if there is none
abbrev pub argument_text : ArgMatches → (name : List ℕ) → List ℕ
argument_text matches name = unwrap_or (first_value (found_of matches) name) []

-- the texts of all values of an argument, in order; none if it isn't given
abbrev pub argument_values : ArgMatches → (name : List ℕ) → List (List ℕ)
argument_values matches name = unwrap_or (option_map raw_values (matched_of (found_of matches) name)) []
