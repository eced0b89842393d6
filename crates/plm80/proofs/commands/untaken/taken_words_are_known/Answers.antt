use Rattle.plm80.proofs.BesideLemmas.{exact}
use Rattle.plm80.proofs.commands.untaken.taken_words_are_known.Goals as goal

pub returns : goal.returns
returns c = exact
