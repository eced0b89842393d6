use Rattle.std.proofs.Common.{rules, nat_lt}
use Rattle.std.proofs.lemmas.List.Sorted.{answers_always}
use Rattle.board80.proofs.TableLemmas.{ascending_is}
use Rattle.board80.proofs.read_table.ascend.Goals as goal

pub returns : goal.returns
returns c = ascending_is c.args.rows.now _ (c.is_sorted_by.ensures.cases (λ a b. nat_lt a.byte b.byte) (answers_always _ _ _ (λ f a r q k. search rules)))
