use Rattle.plm80_runs.proofs.Names.{inl, Appends-nil}
use Rattle.plm80_names.specs.FrontLaws.{on_err}
use Rattle.plm80_runs.proofs.watching.write_run.Goals as goal

pub returns-in_err-first-clause-front : goal.returns-in_err-first-clause-front
returns-in_err-first-clause-front g c = on_err c.from_residual.result (inl (Appends-nil (g.K.Sink.written c.args.out.now)))

pub returns-in_err-finished-clause-front : goal.returns-in_err-finished-clause-front
returns-in_err-finished-clause-front g c =
    on_err c.from_residual-in_err-finished.result (inl (Appends-nil (g.K.Sink.written c.args.out.now)))
