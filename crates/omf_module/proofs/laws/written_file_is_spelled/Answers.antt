use Rattle.omf_module.proofs.WrittenModule.{file_spelled}
use Rattle.omf_module.proofs.laws.written_file_is_spelled.Goals as goal

pub returns : goal.returns
returns c = file_spelled c.written_is_spelled.ensures
