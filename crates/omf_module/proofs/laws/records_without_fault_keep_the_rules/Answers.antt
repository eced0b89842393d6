use Rattle.omf_module.proofs.UsesThere.{no_fault_where_uses_are_there}
use Rattle.omf_module.proofs.laws.records_without_fault_keep_the_rules.Goals as goal

pub returns : goal.returns
returns c = no_fault_where_uses_are_there
