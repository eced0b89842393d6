-- The cases that are found can be added to the regions.
use Rattle.plm80_regions.proofs.Names.{ℕ, ◌<◌, List, arith, range_with_len, subst, sym}
use Rattle.plm80_regions.proofs.Names.{AreFoundBelow, Bool, CanBeAdded, DeclaredCase, Finding, FindsCases, Located, Note, is_open}
use Rattle.std.specs.Prelude.{AllPairs, map}
use Rattle.std.proofs.lemmas.List.{get_or-map, length-map}
use Rattle.std.proofs.lemmas.List.FromFn.{get_or-range_with_len, length-range_with_len}
use Rattle.std.proofs.lemmas.List.Kept.{AllPairs-filter}
use Rattle.verify80_cases.specs.Added.{FoundCasesCanBeAdded}

abbrev at_of : Finding → ℕ
at_of finding = finding.at

range_ascends : (a n : ℕ) → AllPairs (λ (x y : ℕ). x < y) (range_with_len a n)
range_ascends a n i j d order inside =
    let below : j < n = omega (arith, inside, length-range_with_len a n) in
    omega (arith, order, get_or-range_with_len a n i d (omega (arith, order, below)), get_or-range_with_len a n j d below)

by_address : (findings : List Finding) → AllPairs (λ (x y : ℕ). x < y) (map at_of findings) → AllPairs (λ (a b : Finding). a.at < b.at) findings
by_address findings ascends i j d order inside =
    omega (
      arith,
      ascends i j 0 order (omega (arith, inside, length-map findings at_of)),
      get_or-map at_of findings i d 0 (omega (arith, order, inside)),
      get_or-map at_of findings j d 0 inside,
    )

found_can_be_added : FoundCasesCanBeAdded → (image : Located) (reached taken : List Bool) (limit : ℕ) (cases : List DeclaredCase) (notes : List Note)
    → AreFoundBelow image reached taken limit cases notes → CanBeAdded image.regions cases
found_can_be_added can_be_added image reached taken limit cases notes found =
    subst (CanBeAdded image.regions) (sym found.cases_are)
    (can_be_added image reached taken found.findings found.each
    (by_address found.findings
    (subst (AllPairs (λ (x y : ℕ). x < y)) (sym found.of_all)
    (AllPairs-filter (λ (x y : ℕ). x < y) (is_open image reached) (range_with_len 0 limit) (range_ascends 0 limit)))))

pub finds_can_be_added : FoundCasesCanBeAdded → (image : Located) (entries : List ℕ) (cases : List DeclaredCase) (notes : List Note) → FindsCases image entries cases notes
    → CanBeAdded image.regions cases
finds_can_be_added can_be_added image entries cases notes finds =
    found_can_be_added can_be_added image finds.reached finds.taken 65536 cases notes finds.found
