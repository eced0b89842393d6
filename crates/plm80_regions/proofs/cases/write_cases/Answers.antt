use Rattle.plm80_regions.proofs.Names.{inl, Appends-nil}
use Rattle.plm80_names.specs.FrontLaws.{on_err}
use Rattle.plm80_regions.proofs.cases.write_cases.Goals as goal

pub returns-in_err-code-clause-front : goal.returns-in_err-code-clause-front
returns-in_err-code-clause-front g c = on_err c.from_residual.result (inl (Appends-nil (g.K.Sink.written c.args.out.now)))

pub returns-in_err-search-clause-front : goal.returns-in_err-search-clause-front
returns-in_err-search-clause-front g c =
    on_err c.from_residual-in_err-search.result (inl (Appends-nil (g.K.Sink.written c.args.out.now)))
