use Rattle.plm80_runs.proofs.Names.{rules}
use Rattle.plm80_names.specs.FrontLaws.{first_bytes, no_front, on_err}
use Rattle.plm80_runs.proofs.board_trace.write_first.Goals as goal

pub returns-in_err-first-clause-front : goal.returns-in_err-first-clause-front
returns-in_err-first-clause-front g c = on_err c.from_residual.result (no_front (g.K.Sink.written c.args.out.now) _)

pub returns-in_err-write_all-clause-front : goal.returns-in_err-write_all-clause-front
returns-in_err-write_all-clause-front g c =
    on_err c.from_residual-in_err-write_all.result
    (first_bytes (g.K.Sink.written c.args.out.now) (g.K.Sink.written c.write_all.new.sink) _ c.in_err-write_all.ensures.prefix.0
    (search rules))
