-- Commands of clap with arguments of a table.
use Rattle.std.specs.Prelude.{◌≡◌, ℕ, ◌+◌, ◌<◌, ◌≤◌, List, [], ◌∷◌, ◌++◌, false, length, map, take}
use Rattle.std.proofs.Common.{◌∙◌, ap, ap₂, sym, get_or}
use Rattle.std.proofs.lemmas.List.{map_more, take_all}
use Rattle.clap.specs.{Built.AddsArg, Simple.App, Simple.app_of, Simple.new_shape, Simple.with_rule, Walk.Rule, Walk.rule_of}
use Rattle.clap.specs.declared.{builder.arg.Arg.Arg, builder.command.Command.Command}
use Rattle.plm80_console.specs.{SyntaxTable.rule_of_argument, declared.syntax.Argument.Argument}

abbrev pub app_with : (name : List ℕ) → List Rule → App
app_with name rules = record { top = record (new_shape name) { rules = rules }; subs = [] }

-- one argument more
pub one_more : (old new : Command) (arg : Arg) (name : List ℕ) (rules : List Rule) (rule : Rule) → AddsArg old arg new → arg.global ≡ false
    → app_of old ≡ app_with name rules → rule_of arg ≡ rule → app_of new ≡ app_with name (rules ++ rule ∷ [])
one_more old new arg name rules rule adds local so_far is = adds.shape local ∙ ap₂ with_rule so_far is

-- the next one of a table
pub next : (old new : Command) (arg : Arg) (name : List ℕ) (arguments : List Argument) (i : ℕ) (d : Argument) → AddsArg old arg new
    → app_of old ≡ app_with name (map rule_of_argument (take i arguments)) → i < length arguments → arg.global ≡ false
    → rule_of arg ≡ rule_of_argument (get_or arguments i d)
    → app_of new ≡ app_with name (map rule_of_argument (take (i + 1) arguments))
next old new arg name arguments i d adds so_far lt local is =
    one_more old new arg name (map rule_of_argument (take i arguments)) (rule_of_argument (get_or arguments i d)) adds local so_far is
    ∙ ap (app_with name) (sym (map_more rule_of_argument arguments i d lt))
