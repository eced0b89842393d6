use Rattle.plm80_names.specs.FrontLaws.{all_front, first_bytes, no_front, on_err}
use Rattle.plm80_regions.proofs.cases.write_found.Goals as goal

pub returns-in_err-line-clause-front : goal.returns-in_err-line-clause-front
returns-in_err-line-clause-front g c = on_err c.from_residual.result (no_front (g.K.Sink.written c.args.out.now) _)

pub returns-in_err-write_all-clause-front : goal.returns-in_err-write_all-clause-front
returns-in_err-write_all-clause-front g c =
    on_err c.from_residual-in_err-write_all.result
    (first_bytes (g.K.Sink.written c.args.out.now) (g.K.Sink.written c.write_all.new.sink) _ c.in_err-write_all.ensures.prefix.0
    (simp (c.deref.ensures.value, c.in_ok-line.ensures) at c.in_err-write_all.ensures.prefix.2))

pub returns-in_err-push_given-clause-front : goal.returns-in_err-push_given-clause-front
returns-in_err-push_given-clause-front g c =
    on_err c.from_residual-in_err-push_given.result
    (all_front (g.K.Sink.written c.args.out.now) (g.K.Sink.written c.write_all.new.sink) _
    (simp (c.deref.ensures.value, c.in_ok-line.ensures) at c.in_ok-write_all.ensures.whole))
