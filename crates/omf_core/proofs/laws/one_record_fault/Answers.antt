use Rattle.omf_core.proofs.FeedLemmas.{one_record_fault}
use Rattle.omf_core.proofs.laws.one_record_fault.Goals as goal

pub returns : goal.returns
returns c = one_record_fault
