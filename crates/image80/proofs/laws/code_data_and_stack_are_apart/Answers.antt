use Rattle.image80.proofs.ApartLemmas.{code_is_not_data, code_is_not_stack, data_is_not_stack}
use Rattle.image80.proofs.laws.code_data_and_stack_are_apart.Goals as goal

pub returns-clause-code_or_data : goal.returns-clause-code_or_data
returns-clause-code_or_data c = code_is_not_data

pub returns-clause-code_or_stack : goal.returns-clause-code_or_stack
returns-clause-code_or_stack c = code_is_not_stack

pub returns-clause-data_or_stack : goal.returns-clause-data_or_stack
returns-clause-data_or_stack c = data_is_not_stack
