use Rattle.image80.proofs.FaultLemmas.{one_fault}
use Rattle.image80.proofs.ReadingLemmas.{one_reading, not_refused}
use Rattle.image80.proofs.WriteLemmas.{regions_text_spells, second_text_spells}
use Rattle.image80.proofs.laws.text_of_regions_is_read_as_itself.Goals as goal

pub returns-clause-written : goal.returns-clause-written
returns-clause-written c = regions_text_spells

pub returns-clause-written2 : goal.returns-clause-written2
returns-clause-written2 c = second_text_spells

pub returns-clause-one_reading : goal.returns-clause-one_reading
returns-clause-one_reading c = one_reading

pub returns-clause-not_refused : goal.returns-clause-not_refused
returns-clause-not_refused c = not_refused

pub returns-clause-one_fault : goal.returns-clause-one_fault
returns-clause-one_fault c = one_fault
