use Rattle.std.specs.Prelude.{◌≡◌, map, take}
use Rattle.clap.specs.Simple.{app_of}
use Rattle.plm80_console.specs.SyntaxTable.{rule_of_argument}
use Rattle.plm80_console.proofs.CommandLemmas.{app_with}
use Rattle.plm80_console.proofs.syntax.Syntax.command.Given as goal

-- the arguments so far
abbrev pub invariant-loop-argument : goal.invariant-loop-argument
invariant-loop-argument l =
    app_of l.command ≡ app_with l.self.name.now (map rule_of_argument (take l.argument-index l.self.arguments.now))
