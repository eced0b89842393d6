use Rattle.std.proofs.Common.{subst}
use Rattle.std.specs.Process.{exit_status}
use Rattle.plm80_console.specs.Journal.{Journal}
use Rattle.plm80_bundles.specs.Bundles.{IsBundleDone}
use Rattle.plm80.proofs.run_bundle.Goals as goal

pub returns : goal.returns
returns g c =
    subst (λ (j : Journal). IsBundleDone j (g.C.Console.journal c.run_bundle.new.console) (exit_status c.run_bundle.result)) c.explain_if.ensures
    c.run_bundle.ensures
