use Rattle.std.proofs.Common.{◌≡◌, ◌++◌, map, drop}
use Rattle.std.specs.List.{flat_map, enumerate_from}
use Rattle.link80.specs.Linked.{linked_public, linked_publics}
use Rattle.link80.proofs.symbol_tables.linked_publics.Given as goal

-- the publics so far, and those of the modules that are left
abbrev pub invariant-loop-number : goal.invariant-loop-number
invariant-loop-number l =
    l.publics.items ++ flat_map (λ m. map (linked_public l.joined m) m.1.publics)
    (enumerate_from l.number (drop l.number l.joined)) ≡ linked_publics l.joined
