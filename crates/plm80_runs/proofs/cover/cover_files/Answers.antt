use Rattle.plm80_runs.proofs.ReadLemmas.{no_run, run_or_gives_up, same_limits}
use Rattle.plm80_runs.proofs.Names.{ℕ, List, run_paths, CountsRun, AnswersRun, CoversFiles, Limits, subst}
use Rattle.plm80_console.specs.AnswerLaws.{err_from, gives_up_unanswered, more_or_gives_up, only_blames_same, wrong_arguments}
use Rattle.plm80_runs.proofs.cover.cover_files.Goals as goal

pub returns : goal.returns
returns g c =
    let asked = c.args.arguments in
    let limits = c.in_ok-limits.limits in
    let new = g.C.Console.journal c.print_counts-given.new.console in
    let Counts = λ (inputs : List (ℕ × ℕ)). CountsRun inputs limits in
    let both = more_or_gives_up (AnswersRun Counts asked.files.program.names) (CoversFiles asked) (run_paths asked.files)
    (g.C.Console.journal c.args.console.now) (g.C.Console.journal c.numbers.new.console) new
    (λ files answer answers. record { limits = limits; are_limits = c.in_ok-limits.ensures.limits; answers = answers })
    c.in_ok-limits.ensures.unchanged
    (λ files answer covers.
    subst (λ (l : Limits). AnswersRun (λ (inputs : List (ℕ × ℕ)). CountsRun inputs l) asked.files.program.names files answer)
    (same_limits asked.limits covers.limits limits covers.are_limits c.in_ok-limits.ensures.limits) covers.answers)
    c.print_counts-given.result
    (run_or_gives_up c.in_ok-program.ensures.read new Counts c.print_counts-given.result
    (c.print_counts-given.ensures.done, c.print_counts-given.ensures.fault)) in
    record { done = both.0; fault = both.1 }

pub returns-in_err-limits-clause-fault : goal.returns-in_err-limits-clause-fault
returns-in_err-limits-clause-fault g c =
    err_from c.from_residual.result
    (wrong_arguments (CoversFiles c.args.arguments) (λ files answer covers. c.in_err-limits.ensures.wrong covers.limits covers.are_limits)
    c.in_err-limits.ensures.failed)

pub returns-in_err-program-clause-fault : goal.returns-in_err-program-clause-fault
returns-in_err-program-clause-fault g c =
    err_from c.from_residual-in_err-program.result
    (gives_up_unanswered (CoversFiles c.args.arguments)
    (λ files lacks others answer named covers. no_run files others (λ (inputs : List (ℕ × ℕ)). CountsRun inputs covers.limits) answer lacks covers.answers)
    (only_blames_same c.in_ok-limits.ensures.unchanged c.in_err-program.ensures.fault))
