use Rattle.std.specs.Prelude.{◌≡◌, map, take}
use Rattle.plm80_console.specs.SyntaxTable.{shape_of_syntax}
use Rattle.plm80.specs.CommandLine.{beside}
use Rattle.plm80.proofs.commands.untaken.with_arguments.Given as goal

-- those so far
abbrev pub invariant-loop-number : goal.invariant-loop-number
invariant-loop-number l = map shape_of_syntax l.kept.items ≡ map (beside l.boarded) (map shape_of_syntax (take l.number l.all))
