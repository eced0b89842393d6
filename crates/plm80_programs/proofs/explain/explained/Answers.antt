use Rattle.plm80_programs.proofs.Names.{subst, Located, GoesOnWithChain, named_report, ShowsRefused}
use Rattle.plm80_programs.specs.Explanations.PrintsExplanation.{accepted, refused}
use Rattle.plm80_programs.proofs.explain.explained.Goals as goal

pub returns-in_ok-text-in-Ok : goal.returns-in_ok-text-in-Ok
returns-in_ok-text-in-Ok c =
    let program = c.in-Ok.vouched in
    let text = c.in_ok-text-in-Ok.text.items in
    accepted program text (record { image_is = c.in-Ok.ensures.image; vouched = c.in-Ok.ensures.vouched })
    (subst (λ (i : Located). GoesOnWithChain i c.args.names.now program.stack_bytes (named_report program c.args.names.now) text)
    c.in-Ok.ensures.image c.in_ok-text-in-Ok.ensures)
    c.prints.ensures

pub returns-in_ok-text-in-Err : goal.returns-in_ok-text-in-Err
returns-in_ok-text-in-Err c =
    let text = c.in_ok-text-in-Err.text.items in
    refused c.in-Err.refusal text c.in-Err.ensures.refused c.in_ok-text-in-Err.ensures.no_memory
    (subst (λ (i : Located). ShowsRefused c.args.all i c.args.names.now c.in-Err.refusal text) c.in-Err.ensures.handed_back c.in_ok-text-in-Err.ensures.shows)
    c.prints-in-Err.ensures
