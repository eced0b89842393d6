-- the names that are left still have to be taken
use Rattle.std.proofs.Common.{◌≡◌, ℕ, List, drop, nat_eq, cond}
use Rattle.std.specs.Prelude.{Some}
use Rattle.std.specs.List.{list_any}
use Rattle.std.specs.Cmp.Lexicographic.{pointwise}
use Rattle.omf_library.specs.Providers.{place_in}
use Rattle.omf_library.proofs.providers.Providers.take_names.Given as goal

abbrev pub invariant-loop-public : goal.invariant-loop-public
invariant-loop-public l = (name : List ℕ)
    → cond (list_any (λ p. pointwise nat_eq p.name name) (drop l.public-index l.public-items)) (Some l.place)
    (place_in l.self name)
    ≡ cond (list_any (λ p. pointwise nat_eq p.name name) l.public-items) (Some l.place) (place_in l.fn.self name)
