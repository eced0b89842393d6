use Rattle.plm80_runs.proofs.Names.{◌≡◌, IsOkAnd, Result, refl, subst, sym}
use Rattle.std.specs.declared.alloc.AllocError.{AllocError}
use Rattle.plm80_console.specs.Answer.IsGivenUp.{within}
use Rattle.plm80_console.specs.AnswerLaws.{err_from}
use Rattle.plm80_runs.specs.declared.on_board.Ran.{Ran}
use Rattle.plm80_runs.proofs.on_board.print_ran.Goals as goal

pub returns-in_err-status-in-Ok-clause-fault : goal.returns-in_err-status-in-Ok-clause-fault
returns-in_err-status-in-Ok-clause-fault g c =
    let answer = c.in-Ok.field-0.answer in
    err_from c.from_residual.result
    (within answer (subst (λ (ran : Result Ran AllocError). IsOkAnd ran (λ it. answer ≡ it.answer)) (sym c.in-Ok.is) refl)
    c.in_err-status-in-Ok.ensures.fault)
