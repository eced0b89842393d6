use Rattle.omf_module.proofs.WrittenModule.{module_spelled}
use Rattle.omf_module.proofs.laws.written_module_is_spelled.Goals as goal

pub returns : goal.returns
returns c = module_spelled c.written_is_spelled.ensures
