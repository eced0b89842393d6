use Rattle.omf_core.proofs.FeedLemmas.{one_count}
use Rattle.omf_core.proofs.laws.one_count.Goals as goal

pub returns : goal.returns
returns c = one_count
