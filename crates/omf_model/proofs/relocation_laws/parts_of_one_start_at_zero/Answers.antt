use Rattle.omf_model.proofs.CommonLemmas.{only_part_start}
use Rattle.omf_model.proofs.relocation_laws.parts_of_one_start_at_zero.Goals as goal

pub returns : goal.returns
returns c = only_part_start
