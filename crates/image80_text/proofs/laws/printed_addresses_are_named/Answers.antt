use Rattle.image80_text.proofs.TextLemmas.{printed_address_is_named}
use Rattle.image80_text.proofs.laws.printed_addresses_are_named.Goals as goal

pub returns : goal.returns
returns c = printed_address_is_named
