use Rattle.std.proofs.Common.{◌≡◌, [], drop}
use Rattle.std.specs.List.{flat_map}
use Rattle.link80.specs.FirstSight.{with_names}
use Rattle.link80.specs.Linked.{names_of_commons}
use Rattle.link80.proofs.commons.common_names.Given as goal

-- the names so far, with those of the modules that are left
abbrev pub invariant-loop-number : goal.invariant-loop-number
invariant-loop-number l =
    (with_names l.names (flat_map names_of_commons (drop l.number l.modules))
    ≡ with_names [] (flat_map names_of_commons l.modules))
    × (l.copies.items ≡ l.names)
