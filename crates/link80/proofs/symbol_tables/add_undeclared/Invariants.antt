use Rattle.std.proofs.Common.{◌≡◌, drop, filter, is_none}
use Rattle.link80.specs.FirstSight.{number_in, with_names}
use Rattle.link80.proofs.symbol_tables.add_undeclared.Given as goal

-- the names so far, with those that are left
abbrev pub invariant-loop-name : goal.invariant-loop-name
invariant-loop-name l =
    (with_names l.names (filter (λ name. is_none (number_in l.declared name)) (drop l.name-index l.name-items))
    ≡ with_names l.initial.names (filter (λ name. is_none (number_in l.declared name)) l.name-items))
    × (l.initial.copies.items ≡ l.initial.names → l.copies.items ≡ l.names)
