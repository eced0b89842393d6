use Rattle.omf_core.proofs.FeedLemmas.{other_faults_stay}
use Rattle.omf_core.proofs.laws.other_faults_stay.Goals as goal

pub returns : goal.returns
returns c = other_faults_stay
