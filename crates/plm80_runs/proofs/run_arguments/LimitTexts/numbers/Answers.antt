use Rattle.plm80_names.specs.FrontLaws.{on_err}
use Rattle.plm80_runs.proofs.run_arguments.LimitTexts.numbers.Goals as goal

pub returns-in_err-steps-clause-wrong : goal.returns-in_err-steps-clause-wrong
returns-in_err-steps-clause-wrong g c = on_err c.from_residual.result (λ limits are. c.in_err-steps.ensures.fault are.steps.0)

pub returns-in_err-outputs-clause-wrong : goal.returns-in_err-outputs-clause-wrong
returns-in_err-outputs-clause-wrong g c = on_err c.from_residual-in_err-outputs.result (λ limits are. c.in_err-outputs.ensures.fault are.outputs.0)
