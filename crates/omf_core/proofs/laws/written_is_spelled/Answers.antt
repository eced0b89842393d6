use Rattle.omf_core.proofs.Spelled.{written_is_spelled}
use Rattle.omf_core.proofs.laws.written_is_spelled.Goals as goal

pub returns : goal.returns
returns c = written_is_spelled
