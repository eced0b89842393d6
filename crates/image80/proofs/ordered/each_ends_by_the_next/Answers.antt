use Rattle.std.proofs.Common.{rules, ◌+◌, nat_le}
use Rattle.std.proofs.lemmas.List.Sorted.{answers_always}
use Rattle.image80.proofs.ordered.each_ends_by_the_next.Goals as goal

pub returns : goal.returns
returns c = c.is_sorted_by.ensures.cases (λ a b. nat_le (a.first + a.length) b.first) (answers_always _ _ _ (λ f a r q k. search rules))
