use Rattle.plm80_runs.proofs.Names.{refl, ◌++◌}
use Rattle.plm80_names.specs.FrontLaws.{printed, stopped, stops_as_answer}
use Rattle.plm80_runs.proofs.RunLemmas.{answered_behind, given_up_behind}
use Rattle.plm80_runs.proofs.BoardLemmas.{board_trace_first}
use Rattle.plm80_console.specs.Answer.IsGivenUp.{within}
use Rattle.plm80_runs.specs.OnBoards.{BeginsTrace, TracesOnBoard, TracesOnBoardInPart, board_trace_ending, first_line, image_of}
use Rattle.plm80_runs.specs.OnBoards.TracesOnBoardInPart.{first as first_lines, whole}
use Rattle.plm80_runs.proofs.board_trace.TraceBoardCommand.print.Goals as goal

pub returns-in-Ok : goal.returns-in-Ok
returns-in-Ok g c =
    let lines = c.args.board.now in let limits = c.args.self.limits in let span = c.args.self.span in
    let program = c.args.program.now in
    let names = c.args.names.now in
    let ended = c.in-Ok.ended in
    let wrote = c.in-Ok.ensures.written in
    let text = first_line program ++ wrote.0 in
    let old = g.C.Console.journal c.args.console.now in
    let between = g.C.Console.journal c.take_back-failure.new.self in
    let new = g.C.Console.journal c.end_trace.new.console in
    let answer = board_trace_ending (image_of program) names ended in
    let all = printed _ _ text old (g.C.Console.journal c.output-output.new.self) between c.output-output.ensures.written
    c.output-output.ensures.unchanged wrote.1 c.take_back-failure.ensures in
    let traced : TracesOnBoard limits span lines names program (record answer { first = text }) =
    record { text = wrote.0; ended = ended; traces = wrote.2; answer_is = refl } in
    record {
      done = answered_behind (TracesOnBoard limits span lines names program) answer old between new text
          (board_trace_first (image_of program) names ended) all traced c.end_trace.result c.end_trace.ensures.given;
      fault = given_up_behind (TracesOnBoardInPart limits span lines names program) answer old between new text
          (board_trace_first (image_of program) names ended) all (whole traced) c.end_trace.result c.end_trace.ensures.fault;
    }

pub returns-in-Err-clause-fault : goal.returns-in-Err-clause-fault
returns-in-Err-clause-fault g c =
    let lines = c.args.board.now in let limits = c.args.self.limits in let span = c.args.self.span in
    let program = c.args.program.now in
    let names = c.args.names.now in
    let old = g.C.Console.journal c.args.console.now in
    let new = g.C.Console.journal c.report_lines.new.console in
    stopped (BeginsTrace limits span lines names program) (TracesOnBoardInPart limits span lines names program) _ _
    old (g.C.Console.journal c.output-output.new.self) (g.C.Console.journal c.take_back-failure.new.self) new
    c.output-output.ensures.written c.output-output.ensures.unchanged c.in-Err.ensures.front
    c.take_back-failure.ensures c.report_lines.ensures
    (λ text are stops. within _ (first_lines text are refl) (stops_as_answer text 0 old new stops))
