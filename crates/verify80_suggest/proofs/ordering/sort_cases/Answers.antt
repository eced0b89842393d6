use Rattle.std.proofs.Common.{rules, subst, sym}
use Rattle.std.specs.Prelude.{AllPairs, IfNone, IfSome, List, ◌≢◌}
use Rattle.std.specs.List.Sorted.{IsNonDecreasingBy}
use Rattle.std.proofs.lemmas.List.Sorted.{IsNonDecreasingBy-from_sort_by_key}
use Rattle.image80.specs.Case.{AreByAddress, DeclaredCase}
use Rattle.verify80_suggest.proofs.ordering.sort_cases.Goals as goal

pub returns-clause-by_address : goal.returns-clause-by_address
returns-clause-by_address c =
    subst (λ (cases : List DeclaredCase). IfNone c.repeated_address.result (AreByAddress cases)) c.deref.ensures.value c.repeated_address.ensures.by_address

pub returns-clause-twice : goal.returns-clause-twice
returns-clause-twice c =
    subst (λ (cases : List DeclaredCase). IfSome c.repeated_address.result (λ _. AllPairs (λ one other. one.at ≢ other.at) cases → ⊥)) c.deref.ensures.value
    (c.repeated_address.ensures.twice
    (subst (IsNonDecreasingBy (λ case. case.at)) (sym c.deref.ensures.value)
    (IsNonDecreasingBy-from_sort_by_key (λ case. case.at) _ c.sort_unstable_by_key.ensures.sorted (λ a r q k. search rules))))
