use Rattle.loader80_text.proofs.DigitLemmas.{spells_none, count_is_text}
use Rattle.loader80_text.proofs.inputs.item.count_of_digits.Goals as goal

pub returns-in-Err-clause-count : goal.returns-in-Err-clause-count
returns-in-Err-clause-count c = spells_none c.args.digits.now (λ k. c.in-Err.ensures.cases.0 (count_is_text c.args.digits.now k))
