use Rattle.std.proofs.Common.{◌∙◌, ap, arith, map}
use Rattle.std.proofs.lemmas.List.{take_all}
use Rattle.plm80_console.specs.SyntaxTable.{shape_of_syntax}
use Rattle.plm80.specs.CommandLine.{app_with}
use Rattle.plm80.proofs.ProgramLemmas.{next}
use Rattle.plm80.proofs.commands.program_syntax.program_of.Goals as goal

pub loop-command-preserved : goal.loop-command-preserved
loop-command-preserved c =
    next c.loop-command.program c.in_ok-program-2.program c.in_ok-command.field-0 c.hide.result c.args.commands.now
    c.loop-command.command-index _ c.in_ok-program-2.ensures c.hide.ensures c.loop-command.invariant c.loop-command-test.true
    c.in_ok-command.ensures

pub returns : goal.returns
returns c =
    c.loop-command.invariant ∙ ap (λ all. app_with (map shape_of_syntax all))
    (take_all c.loop-command.command-index c.args.commands.now (omega (arith, c.loop-command-test.false)))
