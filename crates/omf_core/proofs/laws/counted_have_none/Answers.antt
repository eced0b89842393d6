use Rattle.omf_core.proofs.FeedLemmas.{counted_have_none}
use Rattle.omf_core.proofs.laws.counted_have_none.Goals as goal

pub returns : goal.returns
returns c = counted_have_none
