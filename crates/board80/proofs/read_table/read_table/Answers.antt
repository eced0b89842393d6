use Rattle.board80.proofs.ReadLemmas.{no_table_last, no_table_order, no_table_source}
use Rattle.board80.proofs.read_table.read_table.Goals as goal

pub returns-in_default-clause-none : goal.returns-in_default-clause-none
returns-in_default-clause-none c =
    no_table_source c.args.text.now c.first_word.result.0.now c.first_word.result.1.now c.first_word.ensures.joined c.first_word.ensures.word c.first_word.ensures.at_end
    c.in_default.ensures.none

pub returns-in_default-read_last-clause-none : goal.returns-in_default-read_last-clause-none
returns-in_default-read_last-clause-none c =
    no_table_last c.args.text.now c.first_word.result.0.now c.first_word.result.1.now c.in_ok-rows.rest.now c.in_ok-rows.rows.items
    c.first_word.ensures.joined c.first_word.ensures.word c.first_word.ensures.at_end
    c.in_ok-rows.ensures.found c.in_ok-rows.ensures.proper c.in_ok-rows.ensures.ended c.in_default-read_last.ensures.none

pub returns-then-not-ascend-clause-none : goal.returns-then-not-ascend-clause-none
returns-then-not-ascend-clause-none c =
    no_table_order c.args.text.now c.first_word.result.0.now c.first_word.result.1.now c.in_ok-rows.rest.now c.in_ok-rows.rows.items
    c.first_word.ensures.joined c.first_word.ensures.word c.first_word.ensures.at_end
    c.in_ok-rows.ensures.found c.in_ok-rows.ensures.proper c.in_ok-rows.ensures.ended
    (λ ascends. let yes = c.ascend.ensures.1 (rw c.deref.ensures.value ascends) in cc)
