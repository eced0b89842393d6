use Rattle.board80.proofs.ReadLemmas.{decimal_utf8}
use Rattle.board80.proofs.read_list.read_count.Goals as goal

pub returns-in-Err-clause-none : goal.returns-in-Err-clause-none
returns-in-Err-clause-none c = λ count fits is. c.in-Err.ensures.cases.0 (decimal_utf8 count c.args.digits.now fits is)
