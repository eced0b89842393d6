use Rattle.std.proofs.Common.{rules}
use Rattle.std.proofs.lemmas.List.Sorted.{IsNonDecreasingBy-from_sort_by_key}
use Rattle.verify80_flow.specs.ProgramPoints.{rank_of}
use Rattle.verify80_flow.proofs.program_points.sort_points.Goals as goal

pub returns-clause-in_order : goal.returns-clause-in_order
returns-clause-in_order c = IsNonDecreasingBy-from_sort_by_key rank_of _ c.sort_unstable_by_key.ensures.sorted (λ a r q k. search rules)
