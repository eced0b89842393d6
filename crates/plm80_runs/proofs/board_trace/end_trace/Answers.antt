use Rattle.plm80_console.specs.AnswerLaws.{err_from}
use Rattle.plm80_console.specs.Answer.IsGivenUp.{within}
use Rattle.plm80_runs.proofs.board_trace.end_trace.Goals as goal

pub returns-in_err-status-clause-fault : goal.returns-in_err-status-clause-fault
returns-in_err-status-clause-fault g c =
    err_from c.from_residual.result (within c.in-Ok.ending (rw c.image.ensures at c.in-Ok.ensures) c.in_err-status.ensures.fault)
