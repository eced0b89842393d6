use Rattle.verify80_states.proofs.{MemoryLemmas.ground_of, KeepLemmas.known_beside, LawLemmas.followed_by, LawLemmas.known_holds, LawLemmas.leaves_known}
use Rattle.verify80_states.proofs.states.laws.known_is_followed.Goals as goal

pub returns-clause-instructions : goal.returns-clause-instructions
returns-clause-instructions c regions code instr byte next top s m after rules small word bits bytes whole reads are tops holds pass is =
    let apart = c.code_data_and_stack_are_apart.ensures in
    followed_by regions (ground_of apart.code_or_data apart.code_or_stack apart.data_or_stack regions rules) code top s m bytes whole reads are tops holds instr byte next after small word bits pass is

pub returns-clause-conditions : goal.returns-clause-conditions
returns-clause-conditions c = leaves_known

pub returns-clause-holds : goal.returns-clause-holds
returns-clause-holds c = known_holds

pub returns-clause-quiet : goal.returns-clause-quiet
returns-clause-quiet c = known_beside
