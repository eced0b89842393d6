use Rattle.image80.proofs.LineLemmas.{parts_alone, parts_first, joined_first}
use Rattle.image80.proofs.lines.first_line.Goals as goal

pub returns-in-Some-clause-found : goal.returns-in-Some-clause-found
returns-in-Some-clause-found c = parts_first _ _ (cc c.in-Some.ensures)

pub returns-in-Some-clause-joined : goal.returns-in-Some-clause-joined
returns-in-Some-clause-joined c = joined_first _ _ (cc c.in-Some.ensures)

pub returns-in-None-clause-absent : goal.returns-in-None-clause-absent
returns-in-None-clause-absent c = parts_alone _ (cc c.in-None.ensures)
