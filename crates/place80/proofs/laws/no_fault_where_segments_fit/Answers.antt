use Rattle.place80.proofs.FitLemmas.{nothing_told_fit}
use Rattle.place80.proofs.laws.no_fault_where_segments_fit.Goals as goal

pub returns : goal.returns
returns c = nothing_told_fit
