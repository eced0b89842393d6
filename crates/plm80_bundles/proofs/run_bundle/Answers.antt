use Rattle.std.specs.Process.{exit_status}
use Rattle.plm80_bundles.proofs.BundleLemmas.{bundle_done}
use Rattle.plm80_bundles.proofs.run_bundle.Goals as goal

pub returns : goal.returns
returns g c =
    bundle_done c.transcribe.result (exit_status c.exit_code.result) (g.C.Console.journal c.args.console.now)
    (g.C.Console.journal c.transcribe.new.console) c.transcribe.ensures.done c.transcribe.ensures.fault c.exit_code.ensures.answer
    c.exit_code.ensures.fault
