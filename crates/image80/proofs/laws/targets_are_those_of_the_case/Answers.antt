use Rattle.image80.proofs.CaseLemmas.{declared_exactly}
use Rattle.image80.proofs.laws.targets_are_those_of_the_case.Goals as goal

pub returns : goal.returns
returns c = declared_exactly
