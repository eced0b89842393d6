-- Arguments of a command that write no file which another argument names, letter for letter.
-- (Which arguments may share a file is this project's own.)
use Rattle.std.specs.Prelude.{◌≡◌, ◌≢◌, ℕ, ◌==◌, nat_lt, Bool, false, ◌&&◌, Option, None, Some, if◌then◌else◌, List, length, slice_get}
use Rattle.std.specs.{List.list_any, List.position_or_len, List.after_first, Option.option_map_or, Str.bytes_eq}
use Rattle.clap.specs.{declared.parser.matches.ArgMatches.ArgMatches, Matches.first_value, Matches.found_of}
use Rattle.plm80_console.specs.declared.syntax.Kind.TheVariants.{Path, Paths, Written, WrittenOption, WrittenIfGiven, Replaced, PathsAt, PathInPlaceOf}
use Rattle.plm80_console.specs.{Arguments.argument_values, Kinds.is_written, Kinds.may_replace}
use Rattle.plm80_console.specs.declared.syntax.{Argument.Argument, Kind.Kind}

-- the path of the file that an argument writes, if it writes one and is given
abbrev pub path_to_write : ArgMatches → Argument → Option (List ℕ)
path_to_write matches argument = if is_written argument.kind then first_value (found_of matches) argument.name.now else None

-- the path is an argument's value
abbrev pub is_value : ArgMatches → (name path : List ℕ) → Bool
is_value matches name path = option_map_or (λ own. bytes_eq own path) (first_value (found_of matches) name) false

-- it is one of an argument's values
abbrev pub is_among_values : ArgMatches → (name path : List ℕ) → Bool
is_among_values matches name path = list_any (λ own. bytes_eq own path) (argument_values matches name)

-- it stands behind the first equals sign of a value
abbrev pub stands_behind : (value path : List ℕ) → Bool
stands_behind value path =
    nat_lt (position_or_len (λ byte. byte == 61) value) (length value) && bytes_eq (after_first (λ byte. byte == 61) value) path

abbrev pub is_behind_values : ArgMatches → (name path : List ℕ) → Bool
is_behind_values matches name path = list_any (λ value. stands_behind value path) (argument_values matches name)

-- an argument of this kind and name has the path
abbrev pub has_path : Kind → ArgMatches → (name path : List ℕ) → Bool
has_path Path matches name path = is_value matches name path
has_path Written matches name path = is_value matches name path
has_path (WrittenOption word) matches name path = is_value matches name path
has_path (WrittenIfGiven word) matches name path = is_value matches name path
has_path (Replaced word old) matches name path = is_value matches name path
has_path (PathInPlaceOf others) matches name path = is_value matches name path
has_path Paths matches name path = is_among_values matches name path
has_path (PathsAt word) matches name path = is_behind_values matches name path
has_path _ matches name path = false

-- of an argument that writes the file of a path, and another one: this one hasn't the path, unless its file may be replaced
abbrev pub IsApartFrom : ArgMatches → (written : Argument) → (path : List ℕ) → (other : Argument) → Type 0
IsApartFrom matches written path other =
    may_replace written.kind other.name.now ≡ false → has_path other.kind matches other.name.now path ≡ false

-- no other argument has the path of the one with this index
abbrev pub IsApart : ArgMatches → List Argument → (index : ℕ) → Type 0
IsApart matches arguments index =
    (written : Argument) → (path : List ℕ) → slice_get arguments index ≡ Some written → path_to_write matches written ≡ Some path
    → (place : ℕ) → (other : Argument) → slice_get arguments place ≡ Some other → place ≢ index
    → IsApartFrom matches written path other

abbrev pub AreApart : ArgMatches → List Argument → Type 0
AreApart matches arguments = (index : ℕ) → IsApart matches arguments index
