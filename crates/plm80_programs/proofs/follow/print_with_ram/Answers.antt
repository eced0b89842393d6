use Rattle.plm80_console.specs.Answer.IsGivenUp.{within}
use Rattle.plm80_console.specs.AnswerLaws.{err_from}
use Rattle.plm80_programs.proofs.follow.print_with_ram.Goals as goal

pub returns-in_err-status-in-Ok-clause-fault : goal.returns-in_err-status-in-Ok-clause-fault
returns-in_err-status-in-Ok-clause-fault g c =
    err_from c.from_residual.result (within c.in-Ok.field-0.answer c.in-Ok.ensures c.in_err-status-in-Ok.ensures.fault)
