use Rattle.link80.proofs.DuplicateLemmas.{first_again_is_the_first, none_again_where_all_are_new, duplicate_is_the_first}
use Rattle.link80.proofs.laws.duplicate_is_the_first.Goals as goal

pub returns-clause-name : goal.returns-clause-name
returns-clause-name c = first_again_is_the_first

pub returns-clause-none : goal.returns-clause-none
returns-clause-none c = none_again_where_all_are_new

pub returns-clause-fault : goal.returns-clause-fault
returns-clause-fault c = duplicate_is_the_first
