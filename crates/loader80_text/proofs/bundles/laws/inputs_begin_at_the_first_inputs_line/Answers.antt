use Rattle.loader80_text.proofs.InputsLineLemmas.{parted_at_the_first}
use Rattle.loader80_text.proofs.bundles.laws.inputs_begin_at_the_first_inputs_line.Goals as goal

pub returns : goal.returns
returns c = parted_at_the_first
