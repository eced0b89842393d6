use Rattle.std.proofs.Common.{◌≡◌, ◌+◌, ◌++◌, map, drop}
use Rattle.std.specs.List.{enumerate_from}
use Rattle.link80.specs.Linked.{numbered_common}
use Rattle.link80.proofs.commons.JoinedModules.linked_commons.Given as goal

-- the commons so far, and those of the names that are left
abbrev pub invariant-loop-name : goal.invariant-loop-name
invariant-loop-name l =
    (l.commons.items ++ map numbered_common (enumerate_from l.id (drop l.name-index l.name-items))
    ≡ map numbered_common (enumerate_from 6 l.name-items))
    × (l.id ≡ 6 + l.name-index)
