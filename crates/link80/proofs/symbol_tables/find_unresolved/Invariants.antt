use Rattle.std.proofs.Common.{◌≡◌, [], drop, filter, is_none}
use Rattle.std.specs.List.{flat_map}
use Rattle.link80.specs.FirstSight.{number_in, with_names}
use Rattle.link80.proofs.symbol_tables.find_unresolved.Given as goal

-- the names so far, with those of the modules that are left
abbrev pub invariant-loop-number : goal.invariant-loop-number
invariant-loop-number l =
    (with_names l.names (flat_map (λ m. filter (λ name. is_none (number_in l.declared name)) m.externals)
    (drop l.number l.joined))
    ≡ with_names [] (flat_map (λ m. filter (λ name. is_none (number_in l.declared name)) m.externals) l.joined))
    × (l.copies.items ≡ l.names)
