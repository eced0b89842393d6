use Rattle.std.specs.Prelude.{◌≡◌, filter_map, map, take}
use Rattle.plm80_console.specs.SyntaxTable.{rule_of_argument}
use Rattle.plm80.specs.CommandLine.{rule_beside}
use Rattle.plm80.proofs.commands.untaken.arguments_beside.Given as goal

-- those so far
abbrev pub invariant-loop-argument : goal.invariant-loop-argument
invariant-loop-argument l = map rule_of_argument l.kept.items ≡ filter_map (rule_beside l.boarded) (map rule_of_argument (take l.argument-index l.arguments))
