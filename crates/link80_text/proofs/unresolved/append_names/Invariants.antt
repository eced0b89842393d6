use Rattle.std.proofs.Common.{◌≡◌, ◌++◌, drop, map}
use Rattle.std.specs.List.{flat_map}
use Rattle.link80_text.specs.Parts.{needing_text}
use Rattle.link80_text.proofs.unresolved.append_names.Given as goal

-- the lines so far, and those of the names that are left
abbrev pub invariant-loop-name : goal.invariant-loop-name
invariant-loop-name l =
    l.text.items ++ flat_map (needing_text (map (λ m. m.now) l.modules)) (drop l.name-index l.names)
    ≡ l.initial.text.items ++ flat_map (needing_text (map (λ m. m.now) l.modules)) l.names
