use Rattle.place80.proofs.OverlapLemmas.{overlap_is_shared_address}
use Rattle.place80.proofs.laws.segments_overlap_at_an_address.Goals as goal

pub returns : goal.returns
returns c = overlap_is_shared_address
