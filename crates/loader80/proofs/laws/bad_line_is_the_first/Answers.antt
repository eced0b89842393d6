use Rattle.loader80.proofs.FirstLineLemmas.{bad_line_is_the_first}
use Rattle.loader80.proofs.laws.bad_line_is_the_first.Goals as goal

pub returns : goal.returns
returns c = bad_line_is_the_first
