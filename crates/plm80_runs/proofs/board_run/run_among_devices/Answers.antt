use Rattle.plm80_console.specs.AnswerLaws.{err_from, more_or_gives_up, wrong_arguments}
use Rattle.plm80_runs.proofs.Names.{subst, Limits}
use Rattle.plm80_runs.proofs.ReadLemmas.{same_limits}
use Rattle.plm80_runs.specs.OnBoards.{AnswersRunOnBoard, PrintsRun, RunsOnBoard, board_program_paths}
use Rattle.plm80_runs.proofs.board_run.run_among_devices.Goals as goal

pub returns : goal.returns
returns g c =
    let asked = c.args.arguments in
    let limits = c.in_ok-limits.limits in
    let both = more_or_gives_up (AnswersRunOnBoard (PrintsRun c.args.output limits) asked.files) (RunsOnBoard c.args.output asked) (board_program_paths asked.files)
    (g.C.Console.journal c.args.console.now) (g.C.Console.journal c.numbers.new.console) (g.C.Console.journal c.print_on_board-given.new.console)
    (λ files answer answers. record { limits = limits; are_limits = c.in_ok-limits.ensures.limits; answers = answers })
    c.in_ok-limits.ensures.unchanged
    (λ files answer is.
    subst (λ (l : Limits). AnswersRunOnBoard (PrintsRun c.args.output l) asked.files files answer)
    (same_limits asked.limits is.limits limits is.are_limits c.in_ok-limits.ensures.limits) is.answers)
    c.print_on_board-given.result
    (c.print_on_board-given.ensures.done, c.print_on_board-given.ensures.fault) in
    record { done = both.0; fault = both.1 }

pub returns-in_err-limits-clause-fault : goal.returns-in_err-limits-clause-fault
returns-in_err-limits-clause-fault g c =
    err_from c.from_residual.result
    (wrong_arguments (RunsOnBoard c.args.output c.args.arguments) (λ files answer is. c.in_err-limits.ensures.wrong is.limits is.are_limits)
    c.in_err-limits.ensures.failed)
