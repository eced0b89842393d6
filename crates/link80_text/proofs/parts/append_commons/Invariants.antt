use Rattle.std.proofs.Common.{◌≡◌, ◌++◌, drop, map}
use Rattle.std.specs.List.{flat_map}
use Rattle.link80_text.specs.Parts.{segment_text}
use Rattle.link80_text.proofs.parts.append_commons.Given as goal

-- the lines so far, and those of the commons that are left
abbrev pub invariant-loop-common : goal.invariant-loop-common
invariant-loop-common l =
    l.text.items ++ flat_map (segment_text (map (λ m. m.now) l.modules)) (map (λ c. c.id) (drop l.common-index l.commons))
    ≡ l.initial.text.items ++ flat_map (segment_text (map (λ m. m.now) l.modules)) (map (λ c. c.id) l.commons)
