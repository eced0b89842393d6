use Rattle.board80.proofs.ReadLemmas.{none_written, parsed_never}
use Rattle.board80.proofs.read_list.count_of_text.Goals as goal

pub returns-in-Ok-clause-none : goal.returns-in-Ok-clause-none
returns-in-Ok-clause-none c = none_written c.count_if_written.result c.args.text.now c.in-Ok.count c.in-Ok.ensures.value c.count_if_written.ensures.none

pub returns-in-Err-clause-none : goal.returns-in-Err-clause-none
returns-in-Err-clause-none c = λ count fits is. parsed_never count c.args.text.now fits is c.in-Err.ensures.value
