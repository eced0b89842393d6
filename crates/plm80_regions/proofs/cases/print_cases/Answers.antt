use Rattle.plm80_regions.proofs.Names.{◌∙◌, [], ap, refl, cases_text, notes_status, prints}
use Rattle.plm80_names.specs.FrontLaws.{printed, stopped, stops_as_answer}
use Rattle.plm80_regions.proofs.Names.{BeginsCases, Journal, None, PrintsCasesInPart, and_printed, sym}
use Rattle.plm80_names.specs.FrontLaws.{nothing_printed}
use Rattle.plm80_console.specs.Answer.IsGivenUp.{within}
use Rattle.plm80_regions.specs.Cases.PrintsCasesInPart.{begun}
use Rattle.plm80_regions.proofs.cases.print_cases.Goals as goal

pub returns-in-Ok-clause-done : goal.returns-in-Ok-clause-done
returns-in-Ok-clause-done g c =
    let cases = c.in-Ok.ensures.found.0 in
    let notes = c.in-Ok.notes.items in
    let old = g.C.Console.journal c.args.console.now in
    record {
      answer = prints (cases_text cases) (notes_status notes);
      answers = record { cases = cases; notes = notes; found = c.in-Ok.ensures.found.1; files = []; added = refl; answer_is = refl };
      given = record {
        journal = printed _ _ (cases_text cases) old (g.C.Console.journal c.output-output.new.self)
            (g.C.Console.journal c.take_back-failure.new.self) c.output-output.ensures.written c.output-output.ensures.unchanged c.in-Ok.ensures.found.2
            c.take_back-failure.ensures ∙ ap (λ (j : Journal). and_printed j (cases_text cases)) (sym (nothing_printed old));
        status_is = c.notes_status.ensures ∙ ap notes_status c.deref-in-Ok.ensures.value;
      };
    }

pub returns-in-Err-clause-fault : goal.returns-in-Err-clause-fault
returns-in-Err-clause-fault g c =
    let old = g.C.Console.journal c.args.console.now in
    let new = g.C.Console.journal c.report_lines.new.console in
    stopped (BeginsCases c.args.image.now) (PrintsCasesInPart None c.args.image.now) _ _ old (g.C.Console.journal c.output-output.new.self)
    (g.C.Console.journal c.take_back-failure.new.self) new c.output-output.ensures.written c.output-output.ensures.unchanged
    c.in-Err.ensures.front c.take_back-failure.ensures c.report_lines.ensures
    (λ text begins stops. within (prints text 0) (begun begins refl) (stops_as_answer text 0 old new stops))
