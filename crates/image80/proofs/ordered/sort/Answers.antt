use Rattle.std.proofs.Common.{rules}
use Rattle.std.proofs.lemmas.List.Sorted.{IsNonDecreasingBy-from_sort_by_key}
use Rattle.image80.proofs.ordered.sort.Goals as goal

pub returns-clause-by_first : goal.returns-clause-by_first
returns-clause-by_first c = IsNonDecreasingBy-from_sort_by_key (λ range. range.first) _ c.sort_unstable_by_key.ensures.sorted (λ a r q k. search rules)
