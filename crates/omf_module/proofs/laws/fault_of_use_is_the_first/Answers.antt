use Rattle.omf_module.proofs.FirstUseLemmas.{bodies_fault_is_the_first, use_fault_is_the_first}
use Rattle.omf_module.proofs.laws.fault_of_use_is_the_first.Goals as goal

pub returns-clause-bodies : goal.returns-clause-bodies
returns-clause-bodies c = bodies_fault_is_the_first

pub returns-clause-all : goal.returns-clause-all
returns-clause-all c = use_fault_is_the_first
