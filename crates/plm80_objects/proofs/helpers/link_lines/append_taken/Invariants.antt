use Rattle.plm80_objects.proofs.Names.{◌≡◌, ◌++◌, drop, flat_map, taken_line}
use Rattle.plm80_objects.proofs.helpers.link_lines.append_taken.Given as goal

-- the lines so far, and those of the places that are left
abbrev pub invariant-loop-chosen : goal.invariant-loop-chosen
invariant-loop-chosen l =
    l.lines.items ++ flat_map (taken_line l.libraries) (drop l.chosen-index l.taken)
    ≡ l.initial.lines.items ++ flat_map (taken_line l.libraries) l.taken
