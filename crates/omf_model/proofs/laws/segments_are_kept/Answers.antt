use Rattle.omf_model.proofs.CanonicalLemmas.{segments_kept, absolute_empty}
use Rattle.omf_model.proofs.laws.segments_are_kept.Goals as goal

pub returns : goal.returns
returns c = record { kept = segments_kept; absolute = absolute_empty }
