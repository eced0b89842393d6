use Rattle.machine80.proofs.ArithmeticLemmas.{one_adder_holds}
use Rattle.machine80.proofs.laws.one_adder.Goals as goal

pub returns : goal.returns
returns c = one_adder_holds
