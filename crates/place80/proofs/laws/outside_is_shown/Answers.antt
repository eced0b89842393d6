use Rattle.place80.proofs.CauseLemmas.{outside_shown}
use Rattle.place80.proofs.laws.outside_is_shown.Goals as goal

pub returns : goal.returns
returns c = λ options m id is. outside_shown options m id is
