use Rattle.loader80_trace.proofs.GoingOnLemmas.{runs_on}
use Rattle.loader80_trace.proofs.laws.runs_go_on.Goals as goal

pub returns : goal.returns
returns c = runs_on
