use Rattle.image80_text.proofs.TextLemmas.{nearest_is_greatest}
use Rattle.image80_text.proofs.laws.nearest_publics_are_greatest.Goals as goal

pub returns : goal.returns
returns c = nearest_is_greatest
