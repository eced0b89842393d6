use Rattle.verify80_explain_text.proofs.LawLemmas.{longest, whole}
use Rattle.verify80_explain_text.proofs.laws.ways_are_shown_in_runs.Goals as goal

pub returns : goal.returns
returns c = λ way. (whole way, longest way)
