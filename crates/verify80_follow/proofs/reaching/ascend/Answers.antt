use Rattle.std.proofs.Common.{rules, nat_lt}
use Rattle.std.proofs.lemmas.List.Sorted.{answers_always}
use Rattle.verify80_follow.proofs.ReachLemmas.{ascending_is}
use Rattle.verify80_follow.proofs.reaching.ascend.Goals as goal

pub returns : goal.returns
returns c is = ascending_is c.args.addresses.now c.is_sorted_by.result (c.is_sorted_by.ensures.cases (λ a b. nat_lt a b) (answers_always _ _ _ (λ f a r q k. search rules))) is
