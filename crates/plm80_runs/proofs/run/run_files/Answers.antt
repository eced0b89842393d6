use Rattle.plm80_runs.proofs.Names.{◌≡◌, ◌∙◌, ap, ℕ, List, subst, sym, true, false, run_paths, dump_path, AnswersRun, AnswersSession, AnswerValue, EndsRun, FileValue, Limits, RunsFiles}
use Rattle.std.specs.{Bool.MatchBool, Prelude.Bool}
use Rattle.plm80_console.specs.Journal.{and_blamed}
use Rattle.plm80_console.specs.AnswerLaws.{err_from, gives_up_more, more_or_gives_up, wrong_arguments}
use Rattle.plm80_runs.specs.Running.{AreLimitsOf, WritesCount, is_session}
use Rattle.plm80_runs.specs.declared.run.RunArguments.{RunArguments}
use Rattle.plm80_runs.proofs.ReadLemmas.{same_limits}
use Rattle.plm80_runs.proofs.run.run_files.Goals as goal

-- what is answered, by which of both it is
abbrev Either : RunArguments → List FileValue → AnswerValue → Bool → Limits → ℕ → Type 0
Either asked files answer session limits last =
    MatchBool session (AnswersSession limits files answer)
    (AnswersRun (λ inputs. EndsRun inputs limits last (dump_path asked.dump)) asked.files.program.names files answer)

-- the numbers that the options write are those of every answer
by_numbers : (asked : RunArguments) (limits : Limits) (last : ℕ) (session : Bool) → AreLimitsOf asked.limits limits → WritesCount asked.last last
    → is_session asked last ≡ session → (files : List FileValue) (answer : AnswerValue) → RunsFiles asked files answer
    → Either asked files answer session limits last
by_numbers asked limits last session are is at files answer runs =
    subst (λ (b : Bool). Either asked files answer b limits last) at
    (subst (λ (n : ℕ). Either asked files answer (is_session asked n) limits n) (runs.is_last.1 ∙ sym is.1)
    (subst (λ (l : Limits). Either asked files answer (is_session asked runs.last) l runs.last)
    (same_limits asked.limits runs.limits limits runs.are_limits are) runs.answers))

pub returns : goal.returns
returns g c =
    let asked = c.args.arguments in
    let limits = c.in_ok-limits.limits in
    let last = c.in_ok-last.last in
    let at = sym c.is_session.ensures ∙ c.if-is_session.false in
    let both = more_or_gives_up (AnswersRun (λ inputs. EndsRun inputs limits last (dump_path asked.dump)) asked.files.program.names)
    (RunsFiles asked) (run_paths asked.files) (g.C.Console.journal c.args.console.now) (g.C.Console.journal c.count.new.console)
    (g.C.Console.journal c.watch_run-given.new.console)
    (λ files answer answers. record {
      limits = limits;
      are_limits = c.in_ok-limits.ensures.limits;
      last = last;
      is_last = c.in_ok-last.ensures.count;
      answers = rw at answers;
    })
    (c.in_ok-last.ensures.unchanged ∙ c.in_ok-limits.ensures.unchanged)
    (by_numbers asked limits last false c.in_ok-limits.ensures.limits c.in_ok-last.ensures.count at)
    c.watch_run-given.result
    (c.watch_run-given.ensures.done, c.watch_run-given.ensures.fault) in
    record { done = both.0; fault = both.1 }

pub returns-then-is_session-clause-fault : goal.returns-then-is_session-clause-fault
returns-then-is_session-clause-fault g c =
    let asked = c.args.arguments in
    let limits = c.in_ok-limits.limits in
    let last = c.in_ok-last.last in
    let at = sym c.is_session.ensures ∙ c.if-is_session.true in
    gives_up_more (AnswersSession limits) (RunsFiles asked) (run_paths asked.files) (g.C.Console.journal c.args.console.now)
    (g.C.Console.journal c.count.new.console) (g.C.Console.journal c.run_session.new.console)
    (λ files answer answers. record {
      limits = limits;
      are_limits = c.in_ok-limits.ensures.limits;
      last = last;
      is_last = c.in_ok-last.ensures.count;
      answers = rw at answers;
    })
    (c.in_ok-last.ensures.unchanged ∙ c.in_ok-limits.ensures.unchanged)
    (by_numbers asked limits last true c.in_ok-limits.ensures.limits c.in_ok-last.ensures.count at)
    c.run_session.result c.run_session.ensures.fault

pub returns-in_err-limits-clause-fault : goal.returns-in_err-limits-clause-fault
returns-in_err-limits-clause-fault g c =
    err_from c.from_residual.result
    (wrong_arguments (RunsFiles c.args.arguments) (λ files answer runs. c.in_err-limits.ensures.wrong runs.limits runs.are_limits)
    c.in_err-limits.ensures.failed)

pub returns-in_err-last-clause-fault : goal.returns-in_err-last-clause-fault
returns-in_err-last-clause-fault g c =
    err_from c.from_residual-in_err-last.result
    (wrong_arguments (RunsFiles c.args.arguments) (λ files answer runs. c.in_err-last.ensures.fault runs.is_last.0)
    (c.in_err-last.ensures.failed ∙ ap and_blamed c.in_ok-limits.ensures.unchanged))
