use Rattle.omf_module.proofs.FileFeedLemmas.{one_count}
use Rattle.omf_module.proofs.laws.one_module_count.Goals as goal

pub returns : goal.returns
returns c = one_count c.one_reading.ensures.module
