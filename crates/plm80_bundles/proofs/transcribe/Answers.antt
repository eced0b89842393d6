use Rattle.std.proofs.Common.{sym, ◌∙◌, arith}
use Rattle.plm80_bundles.specs.Bundles.GivesUpBundle.{within}
use Rattle.plm80_bundles.proofs.BundleLemmas.{sends_bundle}
use Rattle.plm80_bundles.proofs.transcribe.Goals as goal

pub returns-clause-fault : goal.returns-clause-fault
returns-clause-fault g c =
    let between = g.C.Console.journal c.take_back-failure.new.self in
    within between c.answer_of-answer.result c.in-Err.fault
    (sends_bundle c.in_ok-text.text.items c.answer_of-answer.result _ _ (g.C.Console.journal c.args.console.now)
    (g.C.Console.journal c.read_input.new.self) (g.C.Console.journal c.output-output.new.self) between
    (omega (arith, c.in_ok-text.ensures.within, c.in_ok-text.text.ok.0)) c.in_ok-text.ensures.read c.output-output.ensures.unchanged
    c.output-output.ensures.written (rw c.deref.ensures.value at c.answer_of-answer.ensures) c.take_back-failure.ensures)
    (sym c.bundle_status.ensures ∙ c.in-Err.is) c.report_bundle-reported.ensures

pub returns-in-Ok-clause-done : goal.returns-in-Ok-clause-done
returns-in-Ok-clause-done g c =
    let between = g.C.Console.journal c.take_back-failure.new.self in
    record {
      said = c.answer_of-answer.result;
      sent = sends_bundle c.in_ok-text.text.items c.answer_of-answer.result _ _ (g.C.Console.journal c.args.console.now)
          (g.C.Console.journal c.read_input.new.self) (g.C.Console.journal c.output-output.new.self) between
          (omega (arith, c.in_ok-text.ensures.within, c.in_ok-text.text.ok.0)) c.in_ok-text.ensures.read c.output-output.ensures.unchanged
          c.output-output.ensures.written (rw c.deref.ensures.value at c.answer_of-answer.ensures) c.take_back-failure.ensures;
      status_is = sym c.bundle_status.ensures ∙ c.in-Ok.is;
    }
