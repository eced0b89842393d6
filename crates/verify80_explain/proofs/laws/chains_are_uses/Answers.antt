use Rattle.verify80_explain.proofs.ChainLemmas.{chains-are-uses}
use Rattle.verify80_explain.proofs.laws.chains_are_uses.Goals as goal

pub returns : goal.returns
returns c = chains-are-uses
