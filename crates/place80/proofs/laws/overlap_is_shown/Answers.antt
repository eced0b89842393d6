use Rattle.place80.proofs.CauseLemmas.{overlap_shown}
use Rattle.place80.proofs.laws.overlap_is_shown.Goals as goal

pub returns : goal.returns
returns c = λ options m first second is. overlap_shown options m first second is
