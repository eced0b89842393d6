use Rattle.std.proofs.Common.{◌≡◌, ◌++◌, List, ℕ, map, drop}
use Rattle.link80.specs.Gathered.{names_of_publics, again_in}
use Rattle.link80.proofs.declared.add_publics.Given as goal

-- the names so far and those that are left, and the first of what is left that stands before
abbrev pub invariant-loop-public : goal.invariant-loop-public
invariant-loop-public l =
    (l.names ++ map (λ p. p.name) (drop l.public-index l.source.publics) ≡ l.initial.names ++ names_of_publics l.source)
    × ((rest : List (List ℕ))
    → again_in l.initial.names (names_of_publics l.source ++ rest)
    ≡ again_in l.names (map (λ p. p.name) (drop l.public-index l.source.publics) ++ rest))
