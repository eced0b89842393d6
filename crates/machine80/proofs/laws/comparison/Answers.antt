use Rattle.machine80.proofs.ArithmeticLemmas.{comparison_holds}
use Rattle.machine80.proofs.laws.comparison.Goals as goal

pub returns : goal.returns
returns c = comparison_holds
