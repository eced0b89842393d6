use Rattle.plm80_names.specs.FrontLaws.{on_err}
use Rattle.plm80_runs.proofs.BoardLemmas.{first_stopped, lines_behind, lines_stopped}
use Rattle.plm80_runs.proofs.board_trace.write_trace.Goals as goal

pub returns-clause-written : goal.returns-clause-written
returns-clause-written g c =
    lines_behind c.args.trace.limits c.args.trace.span c.args.board.now c.args.names.now c.args.program.now c.write_board_lines.result
    (g.K.Sink.written c.args.out.now) (g.K.Sink.written c.write_first.new.out) (g.K.Sink.written c.write_board_lines.new.out)
    c.in_ok-write_first.ensures.written (rw (c.publics.ensures, c.image.ensures) at c.write_board_lines.ensures.lines)

pub returns-clause-front : goal.returns-clause-front
returns-clause-front g c =
    lines_stopped c.args.trace.limits c.args.trace.span c.args.board.now c.args.names.now c.args.program.now c.write_board_lines.result
    (g.K.Sink.written c.args.out.now) (g.K.Sink.written c.write_first.new.out) (g.K.Sink.written c.write_board_lines.new.out)
    c.in_ok-write_first.ensures.written (rw (c.publics.ensures, c.image.ensures) at c.write_board_lines.ensures.front)

pub returns-in_err-write_first-clause-front : goal.returns-in_err-write_first-clause-front
returns-in_err-write_first-clause-front g c =
    on_err c.from_residual.result
    (first_stopped c.args.trace.limits c.args.trace.span c.args.board.now c.args.names.now c.args.program.now (g.K.Sink.written c.args.out.now)
    (g.K.Sink.written c.write_first.new.out) c.in_err-write_first.ensures.front)
