use Rattle.machine80.proofs.FlagsLemmas.{status_word_comes_back}
use Rattle.machine80.proofs.laws.status_word_round_trip.Goals as goal

pub returns : goal.returns
returns c = status_word_comes_back
