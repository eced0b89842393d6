use Rattle.std.proofs.Common.{◌++◌, Bor, List, ap, map, rules, subst, ◌∙◌}
use Rattle.std.specs.Prelude.{IsPermutation}
use Rattle.std.proofs.lemmas.List.Sorted.{IsNonDecreasingBy-from_sort_by_key, IsPermutation-map}
use Rattle.image80.specs.Case.{DeclaredCase}
use Rattle.verify80_cases.proofs.AddedLemmas.{non_decreasing_map}
use Rattle.verify80_cases.proofs.adding.by_address.Goals as goal

abbrev case_of : Bor DeclaredCase → DeclaredCase
case_of case = case.now

pub returns-clause-same : goal.returns-clause-same
returns-clause-same c =
    let first = c.args.first.now in
    let second = c.args.second.now in
    let sorted = c.sort_unstable_by_key.new.self.items in
    subst (λ (cases : List DeclaredCase). IsPermutation cases (map case_of sorted))
    (c.in_ok-add_references-2.ensures ∙ ap (λ (cases : List DeclaredCase). cases ++ second)
    (c.in_ok-add_references.ensures ∙ ap (λ (cases : List (Bor DeclaredCase)). map case_of cases ++ first) c.new-cases.ensures.items))
    (IsPermutation-map case_of c.add_references-2.new.all.items sorted c.sort_unstable_by_key.ensures.permutation)

pub returns-clause-sorted : goal.returns-clause-sorted
returns-clause-sorted c =
    non_decreasing_map case_of c.sort_unstable_by_key.new.self.items
    (IsNonDecreasingBy-from_sort_by_key (λ case. case.now.at) _ c.sort_unstable_by_key.ensures.sorted (λ a r q k. search rules))
