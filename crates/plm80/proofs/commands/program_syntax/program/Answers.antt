use Rattle.std.specs.Prelude.{◌≡◌, IfOk, List, map}
use Rattle.std.proofs.Common.{◌∙◌, ap, subst}
use Rattle.clap.specs.Simple.{Shape, app_of}
use Rattle.plm80_console.specs.SyntaxTable.{shape_of_syntax}
use Rattle.plm80.specs.CommandLine.{app_with}
use Rattle.plm80.proofs.commands.program_syntax.program.Goals as goal

pub returns : goal.returns
returns c =
    subst (λ (shapes : List Shape). IfOk c.program_of.result (λ program. app_of program ≡ app_with shapes))
    (ap (map shape_of_syntax) c.deref.ensures.value ∙ c.in_ok-all.ensures) c.program_of.ensures
