use Rattle.plm80_runs.proofs.ReadLemmas.{gives_up_run, run_accepted, run_accepted_given_up, run_refused, run_reported}
use Rattle.plm80_runs.proofs.Names.{subst, IsVerdict, TracesPart, TracesRun}
use Rattle.plm80_console.specs.AnswerLaws.{err_from}
use Rattle.plm80_runs.proofs.trace.trace_within.Goals as goal

pub returns-in-Ok-Accepted : goal.returns-in-Ok-Accepted
returns-in-Ok-Accepted g c =
    let program = c.in_ok-program.program in
    let new = g.C.Console.journal c.print_trace.new.console in
    let is = subst (IsVerdict program.image program.names) c.in-Ok-Accepted.field-0-is c.in-Ok-Accepted.ensures in
    record {
      done = run_accepted c.in_ok-program.ensures.read new (λ inputs. TracesRun inputs c.args.limits c.args.span) c.in-Ok-Accepted.vouched is
          c.print_trace.result c.print_trace.ensures.done;
      fault = run_accepted_given_up c.in_ok-program.ensures.read new (λ inputs. TracesPart inputs c.args.limits c.args.span)
          c.in-Ok-Accepted.vouched is c.print_trace.result c.print_trace.ensures.fault;
    }

pub returns-in-Ok-Refused : goal.returns-in-Ok-Refused
returns-in-Ok-Refused g c =
    let program = c.in_ok-program.program in
    let new = g.C.Console.journal c.give.new.self in
    let is = subst (IsVerdict program.image program.names) c.in-Ok-Refused.field-0-is c.in-Ok-Refused.ensures in
    record {
      done = (run_refused c.in_ok-program.ensures.read new (λ inputs. TracesRun inputs c.args.limits c.args.span) c.in-Ok-Refused.line.items
          c.prints.result c.give.result is c.prints.ensures c.give.ensures.given c.give.ensures.fault).0;
      fault = (run_refused c.in_ok-program.ensures.read new (λ inputs. TracesPart inputs c.args.limits c.args.span) c.in-Ok-Refused.line.items
          c.prints.result c.give.result is c.prints.ensures c.give.ensures.given c.give.ensures.fault).1;
    }

pub returns-clause-fault : goal.returns-clause-fault
returns-clause-fault g c = run_reported c.in_ok-program.ensures.read (g.C.Console.journal c.report_memory.new.self) c.report_memory.ensures

pub returns-in_err-program-clause-fault : goal.returns-in_err-program-clause-fault
returns-in_err-program-clause-fault g c =
    err_from c.from_residual.result (gives_up_run (λ inputs. TracesPart inputs c.args.limits c.args.span) c.in_err-program.ensures.fault)
