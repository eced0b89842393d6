use Rattle.plm80_runs.proofs.Names.{true, refl, TracesPart, TracesRun, trace_ending, trace_lines}
use Rattle.plm80_names.specs.FrontLaws.{front_stopped, printed, stops_as_answer}
use Rattle.plm80_runs.proofs.RunLemmas.{answered_behind}
use Rattle.plm80_runs.proofs.RunLemmas.{given_up_behind, trace_first}
use Rattle.plm80_console.specs.Answer.IsGivenUp.{within}
use Rattle.plm80_runs.specs.Running.TracesPart.{lines as lines_alone, whole}
use Rattle.plm80_runs.proofs.trace.print_trace.Goals as goal

pub returns-in-Ok : goal.returns-in-Ok
returns-in-Ok g c =
    let inputs = c.args.inputs.pairs.items in
    let program = c.args.vouched.now in
    let names = c.args.names.now in
    let ended = c.in-Ok.ended in
    let lines = trace_lines inputs c.args.limits c.args.span true names program in
    let old = g.C.Console.journal c.args.console.now in
    let between = g.C.Console.journal c.take_back-failure.new.self in
    let new = g.C.Console.journal c.end_trace.new.console in
    let answer = trace_ending program names ended in
    let all = printed _ _ lines old (g.C.Console.journal c.output-output.new.self) between c.output-output.ensures.written
    c.output-output.ensures.unchanged (rw c.publics.ensures at c.in-Ok.ensures.lines) c.take_back-failure.ensures in
    let traced : TracesRun inputs c.args.limits c.args.span names program (record answer { first = lines }) =
    record { ended = ended; traced = c.in-Ok.ensures.traced; answer_is = refl } in
    record {
      done = answered_behind (TracesRun inputs c.args.limits c.args.span names program) answer old between new lines
          (trace_first program names ended) all traced c.end_trace.result c.end_trace.ensures.given;
      fault = given_up_behind (TracesPart inputs c.args.limits c.args.span names program) answer old between new lines
          (trace_first program names ended) all (whole traced) c.end_trace.result c.end_trace.ensures.fault;
    }

pub returns-in-Err-clause-fault : goal.returns-in-Err-clause-fault
returns-in-Err-clause-fault g c =
    let lines = trace_lines c.args.inputs.pairs.items c.args.limits c.args.span true c.args.names.now c.args.vouched.now in
    let old = g.C.Console.journal c.args.console.now in
    let new = g.C.Console.journal c.report_lines.new.console in
    within _ (lines_alone refl)
    (stops_as_answer lines 0 old new
    (front_stopped _ _ lines old (g.C.Console.journal c.output-output.new.self) (g.C.Console.journal c.take_back-failure.new.self) new
    c.output-output.ensures.written c.output-output.ensures.unchanged (rw c.publics.ensures at c.in-Err.ensures.front)
    c.take_back-failure.ensures c.report_lines.ensures))
