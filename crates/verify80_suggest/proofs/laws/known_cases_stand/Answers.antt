use Rattle.verify80_suggest.proofs.LawLemmas.{cases_stand}
use Rattle.verify80_suggest.proofs.laws.known_cases_stand.Goals as goal

pub returns : goal.returns
returns c = cases_stand
