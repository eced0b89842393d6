use Rattle.verify80_cases.proofs.FoundLemmas.{found_can_be_added}
use Rattle.verify80_cases.proofs.laws.found_cases_can_be_added.Goals as goal

pub returns : goal.returns
returns c = found_can_be_added
