use Rattle.omf_core.proofs.FeedLemmas.{truncated_can_be_spoilt}
use Rattle.omf_core.proofs.laws.truncated_can_be_spoilt.Goals as goal

pub returns : goal.returns
returns c = truncated_can_be_spoilt
