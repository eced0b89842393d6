-- The command line: each command with its arguments, as clap reads them, and the words that clap is given.
-- (The commands and their options are this project's own.)
use Rattle.std.specs.Prelude.{◌≡◌, ◌||◌, ℕ, Bool, true, false, List, [], ◌∷◌, ◌++◌, None, Option, Some, codes, filter_map, find, if◌then◌else◌, map}
use Rattle.std.specs.{Option.option_map_or, Str.bytes_eq}
use Rattle.clap.specs.{Simple.App, Simple.Shape, Simple.new_shape, Takes.takes, Walk.Rule, Walk.is_empty}
use Rattle.plm80_console.specs.JoinedValues.{joined_values}
use Rattle.plm80_console.specs.SyntaxTable.{command_with, flag, option, option_beside, option_or, position, positions, repeated_option, required_option}

-- the options of `locate` and `map`
abbrev pub places : List Rule
places = option (codes "code") ∷ option (codes "stack") ∷ option (codes "common") ∷ option (codes "data") ∷ option (codes "memory")
    ∷ option (codes "stack-size") ∷ option (codes "memory-size") ∷ []

-- the files of a program, and of its run
abbrev pub program : List Rule
program = position (codes "IMAGE") ∷ position (codes "REGIONS") ∷ []

abbrev pub running : List Rule
running = program ++ position (codes "INPUTS") ∷ []

abbrev pub limits : List Rule
limits = option_or (codes "steps") (codes "1000000") ∷ option_or (codes "outputs") (codes "65536") ∷ []

abbrev pub object_commands : List Shape
object_commands =
    command_with (codes "lib") (position (codes "OUT") ∷ positions (codes "FILE") ∷ [])
    ∷ command_with (codes "link") (required_option (codes "name") ∷ required_option (codes "out") ∷ flag (codes "map")
    ∷ flag (codes "reasons") ∷ positions (codes "FILE") ∷ [])
    ∷ command_with (codes "locate") (position (codes "IN") ∷ position (codes "IMAGE") ∷ position (codes "REGIONS") ∷ places
    ++ repeated_option (codes "rom-range") ∷ repeated_option (codes "ram-range") ∷ option_beside (codes "board") false
    ∷ flag (codes "restart") ∷ flag (codes "publics") ∷ [])
    ∷ command_with (codes "map") (position (codes "IN") ∷ places)
    ∷ command_with (codes "module") (position (codes "FILE") ∷ [])
    ∷ []

abbrev pub verifier_commands : List Shape
verifier_commands =
    command_with (codes "check") (program ++ flag (codes "names") ∷ option (codes "board") ∷ [])
    ∷ command_with (codes "explain") (program ++ flag (codes "all") ∷ flag (codes "names") ∷ option (codes "board") ∷ [])
    ∷ command_with (codes "calls") (program ++ flag (codes "dot") ∷ flag (codes "names") ∷ option (codes "board") ∷ [])
    ∷ command_with (codes "stores") (program ++ flag (codes "names") ∷ repeated_option (codes "quiet-ram")
    ∷ option_beside (codes "board") false ∷ [])
    ∷ command_with (codes "follow") (program ++ flag (codes "names") ∷ repeated_option (codes "quiet-ram") ∷ flag (codes "list")
    ∷ flag (codes "interrupted") ∷ repeated_option (codes "handler") ∷ option_beside (codes "board") false ∷ [])
    ∷ command_with (codes "report") (program ++ position (codes "OUT") ∷ [])
    ∷ []

abbrev pub run_commands : List Shape
run_commands =
    command_with (codes "run") (running ++ limits ++ option_or (codes "last") (codes "0") ∷ option (codes "dump") ∷ flag (codes "names")
    ∷ option_beside (codes "board") false ∷ [])
    ∷ command_with (codes "trace") (running ++ option_or (codes "from") (codes "0") ∷ option_or (codes "count") (codes "100") ∷ limits
    ++ flag (codes "names") ∷ option_beside (codes "board") false ∷ [])
    ∷ command_with (codes "cover") (running ++ limits ++ flag (codes "names") ∷ option_beside (codes "board") false ∷ [])
    ∷ command_with (codes "inputs") (position (codes "OUT") ∷ positions (codes "WORD") ∷ [])
    ∷ []

abbrev pub prom_commands : List Shape
prom_commands =
    command_with (codes "absolute") (position (codes "BIN") ∷ position (codes "IMAGE") ∷ required_option (codes "first")
    ∷ required_option (codes "start") ∷ required_option (codes "name") ∷ repeated_option (codes "rom") ∷ [])
    ∷ command_with (codes "extract") (position (codes "IMAGE") ∷ position (codes "OUT") ∷ required_option (codes "first")
    ∷ required_option (codes "length") ∷ option (codes "fill") ∷ flag (codes "sum") ∷ [])
    ∷ command_with (codes "compare") (position (codes "IMAGE") ∷ position (codes "DUMP") ∷ required_option (codes "first")
    ∷ option (codes "fill") ∷ flag (codes "names") ∷ [])
    ∷ command_with (codes "find") (position (codes "DUMP") ∷ positions (codes "FILE") ∷ required_option (codes "first") ∷ [])
    ∷ command_with (codes "suggest") (position (codes "IMAGE") ∷ repeated_option (codes "rom-range") ∷ repeated_option (codes "ram-range")
    ∷ option_beside (codes "board") false ∷ repeated_option (codes "entry") ∷ repeated_option (codes "case") ∷ [])
    ∷ command_with (codes "cases") (program ++ option (codes "out") ∷ [])
    ∷ command_with (codes "list") (program ++ flag (codes "reached") ∷ flag (codes "asm") ∷ flag (codes "names") ∷ [])
    ∷ command_with (codes "regions") (position (codes "OLD") ∷ position (codes "NEW") ∷ [])
    ∷ []

abbrev pub commands : List Shape
commands = object_commands ++ verifier_commands ++ run_commands ++ prom_commands

-- the program: its version is printed by `--version`, and no command line is taken without a command
abbrev pub app_with : List Shape → App
app_with commands = record {
  top = record (new_shape (codes "plm80")) { is_leaf = is_empty commands; has_version = true; subcommand_required = true };
  subs = commands;
}

abbrev pub plm80_app : App
plm80_app = app_with commands

-- what a `--board` stands in place of
abbrev pub is_replaced : (name : List ℕ) → Bool
is_replaced name = bytes_eq name (codes "INPUTS") || (bytes_eq name (codes "last") || (bytes_eq name (codes "dump")
    || (bytes_eq name (codes "rom-range") || (bytes_eq name (codes "ram-range") || (bytes_eq name (codes "quiet-ram")
    || bytes_eq name (codes "handler"))))))

-- an argument of command lines without a `--board` that stands in place of others, or of those with one: it is required there, and they are gone
abbrev pub rule_beside : (boarded : Bool) → Rule → Option Rule
rule_beside false rule = if rule.is_free then Some rule else None
rule_beside true rule = if rule.is_free then (if is_replaced rule.id then None else Some rule) else Some (record rule { is_free = true; required = true })

abbrev pub beside : (boarded : Bool) → Shape → Shape
beside boarded command = record command { rules = filter_map (rule_beside boarded) command.rules }

-- clap doesn't take the words, neither without such a `--board` nor with one
abbrev pub IsUntaken : (words : List (List ℕ)) → Type 0
IsUntaken words = (boarded : Bool) → takes (app_with (map (beside boarded) commands)) words ≡ false

abbrev pub command_named : (name : List ℕ) → Option Shape
command_named name = find (λ command. bytes_eq command.name name) commands

-- the words, each value that begins with a hyphen joined to its option: so clap reads them
abbrev pub joined_words : (words : List (List ℕ)) → List (List ℕ)
joined_words (own ∷ name ∷ words) = own ∷ name ∷ option_map_or (λ command. joined_values command.rules words) (command_named name) words
joined_words words = words
