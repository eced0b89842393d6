use Rattle.plm80_objects.proofs.Names.{◌≡◌, ◌++◌, drop, codes, flat_map, named_line}
use Rattle.plm80_objects.proofs.helpers.link_lines.append_names.Given as goal

-- the lines so far, and those of the names that are left
abbrev pub invariant-loop-name : goal.invariant-loop-name
invariant-loop-name l =
    l.lines.items ++ flat_map (named_line (codes "UNRESOLVED ")) (drop l.name-index l.names)
    ≡ l.initial.lines.items ++ flat_map (named_line (codes "UNRESOLVED ")) l.names
