use Rattle.std.proofs.Common.{◌≡◌, drop}
use Rattle.place80.specs.PlaceFault.{first_sharing, beside_each}
use Rattle.place80.proofs.overlap.first_beside.Given as goal

-- the first of the places that are left is the first of all
abbrev pub invariant-loop-other : goal.invariant-loop-other
invariant-loop-other l =
    first_sharing (beside_each l.place (drop l.other-index l.others)) ≡ first_sharing (beside_each l.place l.others)
