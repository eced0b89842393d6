use Rattle.std.proofs.Common.{◌≡◌, ◌++◌, map, drop}
use Rattle.link80.specs.Linked.{linked_public}
use Rattle.link80.proofs.symbol_tables.add_moved_publics.Given as goal

-- the publics so far, and those of the module that are left
abbrev pub invariant-loop-public : goal.invariant-loop-public
invariant-loop-public l =
    l.publics.items ++ map (linked_public l.joined (l.number, l.source)) (drop l.public-index l.public-items)
    ≡ l.initial.publics.items ++ map (linked_public l.joined (l.number, l.source)) l.public-items
