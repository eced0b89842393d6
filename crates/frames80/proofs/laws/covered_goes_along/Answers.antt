use Rattle.frames80.proofs.PlaceLemmas.{covered_goes_along}
use Rattle.frames80.proofs.laws.covered_goes_along.Goals as goal

pub returns : goal.returns
returns c = covered_goes_along
