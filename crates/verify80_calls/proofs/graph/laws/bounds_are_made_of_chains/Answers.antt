use Rattle.verify80_calls.proofs.BoundLemmas.{made}
use Rattle.verify80_calls.proofs.EndLemmas.{ends_in_walk}
use Rattle.verify80_calls.proofs.graph.laws.bounds_are_made_of_chains.Goals as goal

pub returns-clause-made : goal.returns-clause-made
returns-clause-made c = made

pub returns-clause-ends : goal.returns-clause-ends
returns-clause-ends c = ends_in_walk
