use Rattle.plm80_programs.proofs.Names.{PrintsCalls}
use Rattle.plm80_names.specs.VerdictLaws.{gives_up_program, program_or_gives_up}
use Rattle.plm80_console.specs.AnswerLaws.{err_from}
use Rattle.plm80_programs.proofs.calls.show_on_board.Goals as goal

pub returns : goal.returns
returns g c =
    let both = program_or_gives_up c.in_ok-image.ensures.read (g.C.Console.journal c.give_if_made-given.new.self) (PrintsCalls c.args.dot)
    c.answer_or_reach-answer.result c.give_if_made-given.result c.answer_or_reach-answer.ensures c.give_if_made-given.ensures.given c.give_if_made-given.ensures.fault in
    record { done = both.0; fault = both.1 }

pub returns-in_err-image-clause-fault : goal.returns-in_err-image-clause-fault
returns-in_err-image-clause-fault g c =
    err_from c.from_residual.result
    (gives_up_program (PrintsCalls c.args.dot) c.in_err-image.ensures.fault)
