use Rattle.plm80_names.specs.FrontLaws.{on_err}
use Rattle.plm80_runs.proofs.run_arguments.SpanTexts.numbers.Goals as goal

pub returns-in_err-from-clause-wrong : goal.returns-in_err-from-clause-wrong
returns-in_err-from-clause-wrong g c = on_err c.from_residual.result (λ span are. c.in_err-from.ensures.fault are.from.0)

pub returns-in_err-count-clause-wrong : goal.returns-in_err-count-clause-wrong
returns-in_err-count-clause-wrong g c = on_err c.from_residual-in_err-count.result (λ span are. c.in_err-count.ensures.fault are.count.0)
