use Rattle.image80.proofs.WriteLemmas.{again, one_text}
use Rattle.image80.proofs.laws.migration_ends_at_once.Goals as goal

pub returns-clause-again : goal.returns-clause-again
returns-clause-again c = again

pub returns-clause-one_text : goal.returns-clause-one_text
returns-clause-one_text c = one_text
