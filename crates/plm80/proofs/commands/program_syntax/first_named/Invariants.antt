use Rattle.std.specs.Prelude.{◌≡◌, drop, find, map}
use Rattle.std.specs.Str.{bytes_eq}
use Rattle.plm80_console.specs.SyntaxTable.{shape_of_syntax}
use Rattle.plm80.proofs.commands.program_syntax.first_named.Given as goal

-- none of the commands so far has the name
abbrev pub invariant-loop-command : goal.invariant-loop-command
invariant-loop-command l =
    find (λ command. bytes_eq command.name l.name) (map shape_of_syntax (drop l.command-index l.commands))
    ≡ find (λ command. bytes_eq command.name l.name) (map shape_of_syntax l.commands)
