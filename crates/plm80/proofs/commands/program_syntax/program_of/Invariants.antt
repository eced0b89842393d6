use Rattle.std.specs.Prelude.{◌≡◌, map, take}
use Rattle.clap.specs.Simple.{app_of}
use Rattle.plm80_console.specs.SyntaxTable.{shape_of_syntax}
use Rattle.plm80.specs.CommandLine.{app_with}
use Rattle.plm80.proofs.commands.program_syntax.program_of.Given as goal

-- the commands so far
abbrev pub invariant-loop-command : goal.invariant-loop-command
invariant-loop-command l = app_of l.program ≡ app_with (map shape_of_syntax (take l.command-index l.commands))
