use Rattle.verify80_cases.proofs.LeavesLemmas.{step_leaves}
use Rattle.verify80_cases.proofs.laws.steps_leave_the_rest.Goals as goal

pub returns : goal.returns
returns c = step_leaves c.instructions_keep_to_facts.ensures
