use Rattle.plm80_runs.proofs.Names.{ℕ, List, subst, IsVerdict, AnswersVerdict, EndsRun, dump_path}
use Rattle.plm80_console.specs.AnswerLaws.{answered_of, given_or_given_up}
use Rattle.plm80_runs.proofs.ReadLemmas.{gives_up_run, run_or_gives_up, run_reported}
use Rattle.plm80_names.specs.Verdict.AnswersVerdict.{accepted, refused}
use Rattle.plm80_console.specs.AnswerLaws.{err_from}
use Rattle.plm80_runs.proofs.watching.watch_run.Goals as goal

pub returns-in-Ok-Accepted : goal.returns-in-Ok-Accepted
returns-in-Ok-Accepted g c =
    let watch = c.args.watch in
    let read = c.in_ok-program.program in
    let Ends = λ (inputs : List (ℕ × ℕ)). EndsRun inputs watch.limits watch.last (dump_path watch.dump) in
    let Ends_here = Ends read.inputs.pairs.items read.names in
    let new = g.C.Console.journal c.print_run.new.console in
    let is = subst (IsVerdict read.image read.names) c.in-Ok-Accepted.field-0-is c.in-Ok-Accepted.ensures in
    let both = run_or_gives_up c.in_ok-program.ensures.read new Ends c.print_run.result
    (answered_of (Ends_here c.in-Ok-Accepted.vouched) (AnswersVerdict Ends_here read.image read.names)
    (λ answer ends. accepted c.in-Ok-Accepted.vouched is ends) (g.C.Console.journal c.read.new.console) new c.print_run.result
    (c.print_run.ensures.done, c.print_run.ensures.fault)) in
    record { done = both.0; fault = both.1 }

pub returns-in-Ok-Refused : goal.returns-in-Ok-Refused
returns-in-Ok-Refused g c =
    let watch = c.args.watch in
    let read = c.in_ok-program.program in
    let Ends = λ (inputs : List (ℕ × ℕ)). EndsRun inputs watch.limits watch.last (dump_path watch.dump) in
    let new = g.C.Console.journal c.give.new.self in
    let is = subst (IsVerdict read.image read.names) c.in-Ok-Refused.field-0-is c.in-Ok-Refused.ensures in
    let both = run_or_gives_up c.in_ok-program.ensures.read new Ends c.give.result
    (given_or_given_up (AnswersVerdict (Ends read.inputs.pairs.items read.names) read.image read.names) c.prints.result
    (g.C.Console.journal c.read.new.console) new c.give.result (refused c.in-Ok-Refused.line.items is c.prints.ensures)
    c.give.ensures.given c.give.ensures.fault) in
    record { done = both.0; fault = both.1 }

pub returns-clause-fault : goal.returns-clause-fault
returns-clause-fault g c = run_reported c.in_ok-program.ensures.read (g.C.Console.journal c.report_memory.new.self) c.report_memory.ensures

pub returns-in_err-program-clause-fault : goal.returns-in_err-program-clause-fault
returns-in_err-program-clause-fault g c =
    let watch = c.args.watch in
    err_from c.from_residual.result
    (gives_up_run (λ (inputs : List (ℕ × ℕ)). EndsRun inputs watch.limits watch.last (dump_path watch.dump)) c.in_err-program.ensures.fault)
