use Rattle.verify80.proofs.LookLemmas.{finds, answers}
use Rattle.verify80.proofs.laws.looks_are_exact.Goals as goal

pub returns-clause-found : goal.returns-clause-found
returns-clause-found c = finds

pub returns-clause-fault : goal.returns-clause-fault
returns-clause-fault c = answers
