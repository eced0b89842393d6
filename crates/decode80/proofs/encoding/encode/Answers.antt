use Rattle.decode80.proofs.Spellings.{round_trip_at}
use Rattle.decode80.proofs.encoding.encode.Goals as goal

pub returns-clause-again : goal.returns-clause-again
returns-clause-again c = round_trip_at _ _ _ c.spell.ensures.bytes c.spell.ensures.length
