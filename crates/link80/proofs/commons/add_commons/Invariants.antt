use Rattle.std.proofs.Common.{◌≡◌, map, drop}
use Rattle.link80.specs.FirstSight.{with_names}
use Rattle.link80.proofs.commons.add_commons.Given as goal

-- the names so far, with those that are left
abbrev pub invariant-loop-common : goal.invariant-loop-common
invariant-loop-common l =
    (with_names l.names (map (λ c. c.name) (drop l.common-index l.common-items))
    ≡ with_names l.initial.names (map (λ c. c.name) l.common-items))
    × (l.initial.copies.items ≡ l.initial.names → l.copies.items ≡ l.names)
