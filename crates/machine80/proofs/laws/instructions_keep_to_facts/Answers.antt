use Rattle.machine80.proofs.FactsLemmas.{keep_to_facts}
use Rattle.machine80.proofs.laws.instructions_keep_to_facts.Goals as goal

pub returns : goal.returns
returns c = keep_to_facts
