use Rattle.std.proofs.Common.{◌≡◌, ◌++◌, drop, map}
use Rattle.std.specs.List.{flat_map, enumerate_from}
use Rattle.link80_text.specs.Causes.{part_line, parts_text}
use Rattle.link80_text.proofs.causes.parts.append_parts.Given as goal

-- the lines so far, and those of the modules that are left
abbrev pub invariant-loop-number : goal.invariant-loop-number
invariant-loop-number l =
    l.text.items ++ flat_map (part_line (map (λ f. f.now) l.files) l.id)
    (enumerate_from l.number (map (λ m. m.now) (drop l.number l.modules)))
    ≡ l.initial.text.items ++ parts_text (map (λ f. f.now) l.files) (map (λ m. m.now) l.modules) l.id
