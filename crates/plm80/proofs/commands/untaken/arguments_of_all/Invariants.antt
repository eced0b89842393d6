use Rattle.std.specs.Prelude.{◌≡◌, filter_map, map, take}
use Rattle.plm80_console.specs.SyntaxTable.{rule_of_argument}
use Rattle.plm80.specs.CommandLine.{rule_beside}
use Rattle.plm80.proofs.commands.untaken.arguments_of_all.Given as goal

-- those of the commands so far
abbrev pub invariant-loop-syntax : goal.invariant-loop-syntax
invariant-loop-syntax l = map (λ of. map rule_of_argument of.items) l.kept.items
    ≡ map (λ syntax. filter_map (rule_beside l.boarded) (map rule_of_argument syntax.arguments.now)) (take l.syntax-index l.all)
