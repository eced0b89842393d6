use Rattle.image80_text.proofs.TextLemmas.{no_publics_no_names}
use Rattle.image80_text.proofs.laws.texts_without_names_are_as_before.Goals as goal

pub returns : goal.returns
returns c = no_publics_no_names
