use Rattle.machine80.proofs.DecimalLemmas.{decimal_addition_holds}
use Rattle.machine80.proofs.laws.decimal_addition.Goals as goal

pub returns : goal.returns
returns c = decimal_addition_holds
