use Rattle.page80.proofs.EscapedLemmas.{escaped_is_shown}
use Rattle.page80.proofs.laws.escaped_text_is_shown.Goals as goal

pub returns : goal.returns
returns c = escaped_is_shown
