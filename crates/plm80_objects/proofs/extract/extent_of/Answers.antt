use Rattle.plm80_names.specs.FrontLaws.{on_err}
use Rattle.plm80_objects.proofs.extract.extent_of.Goals as goal

pub returns-in_err-word-clause-wrong : goal.returns-in_err-word-clause-wrong
returns-in_err-word-clause-wrong g c = on_err c.from_residual.result (λ extent is. c.in_err-word.ensures.fault is.first.0)

pub returns-in_err-length-clause-wrong : goal.returns-in_err-length-clause-wrong
returns-in_err-length-clause-wrong g c = on_err c.from_residual-in_err-length.result (λ extent is. c.in_err-length.ensures.fault is.length.0)

pub returns-in_err-byte-clause-wrong : goal.returns-in_err-byte-clause-wrong
returns-in_err-byte-clause-wrong g c = on_err c.from_residual-in_err-byte.result (λ extent is. c.in_err-byte.ensures.fault is.fill.0)
