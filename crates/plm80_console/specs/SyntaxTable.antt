-- What clap reads of a command: a rule for each argument of its table, and one for `--why`. (A rule without a long name is a position.)
use Rattle.std.specs.Prelude.{ℕ, Bool, true, false, List, [], ◌∷◌, ◌++◌, Some, map, codes}
use Rattle.clap.specs.{Lexer.usize_max, Simple.App, Simple.Shape, Simple.new_rule, Simple.new_shape, Walk.Rule, Walk.is_empty}
use Rattle.clap.specs.declared.builder.action.ArgAction.TheVariants.{Append, SetTrue}
use Rattle.plm80_console.specs.declared.syntax.{Argument.Argument, Kind.Kind, Syntax.Syntax}
use Rattle.plm80_console.specs.declared.syntax.Kind.TheVariants.{Path, Paths, Words, Written, WrittenOption, WrittenIfGiven, Replaced, Required, Number, Count, Flag, PathsAt, PathInPlaceOf}

-- one value, which is required, and one or more
abbrev pub position : (name : List ℕ) → Rule
position name = record (new_rule name) { required = true }

abbrev pub positions : (name : List ℕ) → Rule
positions name =
    record (position name) { action = Some Append; range = Some (record { start_inclusive = 1; end_inclusive = usize_max }) }

-- an option without a value
abbrev pub flag : (name : List ℕ) → Rule
flag name = record (new_rule name) { long = Some name; action = Some SetTrue }

-- an option with a value; one that is required, one that may be given again, and one with a default
abbrev pub option : (name : List ℕ) → Rule
option name = record (new_rule name) { long = Some name; value_names = 1 }

abbrev pub required_option : (name : List ℕ) → Rule
required_option name = record (option name) { required = true }

abbrev pub repeated_option : (name : List ℕ) → Rule
repeated_option name = record (option name) { action = Some Append }

abbrev pub option_or : (name default : List ℕ) → Rule
option_or name default = record (option name) { defaults = default ∷ [] }

-- one that is refused beside others, unless there are none
abbrev pub option_beside : (name : List ℕ) → (any : Bool) → Rule
option_beside name any = record (option name) { is_free = any }

abbrev pub rule_of_kind : Kind → (name : List ℕ) → Rule
rule_of_kind Path name = position name
rule_of_kind Written name = position name
rule_of_kind Paths name = positions name
rule_of_kind Words name = positions name
rule_of_kind Flag name = flag name
rule_of_kind (WrittenOption word) name = required_option name
rule_of_kind (Required word) name = required_option name
rule_of_kind (WrittenIfGiven word) name = option name
rule_of_kind (Replaced word old) name = option name
rule_of_kind (Number word) name = option name
rule_of_kind (Count default) name = option_or name default.now
rule_of_kind (PathsAt word) name = repeated_option name
rule_of_kind (PathInPlaceOf others) name = option_beside name (is_empty others.now)

abbrev pub rule_of_argument : Argument → Rule
rule_of_argument argument = rule_of_kind argument.kind argument.name.now

-- a command with these arguments
abbrev pub command_with : (name : List ℕ) → List Rule → Shape
command_with name rules = record (new_shape name) { rules = rules ++ flag (codes "why") ∷ [] }

abbrev pub shape_of_syntax : Syntax → Shape
shape_of_syntax syntax = command_with syntax.name.now (map rule_of_argument syntax.arguments.now)

-- alone, as a program without subcommands
abbrev pub app_of_syntax : Syntax → App
app_of_syntax syntax = record { top = shape_of_syntax syntax; subs = [] }
