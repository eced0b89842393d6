use Rattle.link80_select.proofs.UniqueLemmas.{selections_are_unique}
use Rattle.link80_select.proofs.laws.selections_are_unique.Goals as goal

pub returns : goal.returns
returns c = selections_are_unique
