use Rattle.plm80_runs.proofs.Names.{refl}
use Rattle.plm80_console.specs.AnswerLaws.{err_from}
use Rattle.plm80_console.specs.Answer.IsGivenUp.{within}
use Rattle.plm80_runs.proofs.watching.end_run.Goals as goal

pub returns-in_err-status-clause-fault : goal.returns-in_err-status-clause-fault
returns-in_err-status-clause-fault g c =
    err_from c.from_residual.result (within c.args.watched.answer refl c.in_err-status.ensures.fault)
