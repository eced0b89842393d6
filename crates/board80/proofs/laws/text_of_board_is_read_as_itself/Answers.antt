use Rattle.board80.proofs.BoardLemmas.{not_refused, one_reading, spells_itself}
use Rattle.board80.proofs.laws.text_of_board_is_read_as_itself.Goals as goal

pub returns-clause-written : goal.returns-clause-written
returns-clause-written c = spells_itself

pub returns-clause-one_reading : goal.returns-clause-one_reading
returns-clause-one_reading c = one_reading

pub returns-clause-not_refused : goal.returns-clause-not_refused
returns-clause-not_refused c = not_refused
