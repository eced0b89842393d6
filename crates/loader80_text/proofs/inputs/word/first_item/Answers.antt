use Rattle.loader80_text.proofs.CommaLemmas.{items_alone, items_first}
use Rattle.loader80_text.proofs.inputs.word.first_item.Goals as goal

pub returns-in-Some-clause-found : goal.returns-in-Some-clause-found
returns-in-Some-clause-found c = items_first _ _ (cc c.in-Some.ensures)

pub returns-in-None-clause-absent : goal.returns-in-None-clause-absent
returns-in-None-clause-absent c = items_alone _ (cc c.in-None.ensures)
