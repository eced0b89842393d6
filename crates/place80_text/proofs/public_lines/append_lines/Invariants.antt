use Rattle.std.proofs.Common.{◌≡◌, ◌++◌, map, take}
use Rattle.std.specs.List.{flat_map}
use Rattle.place80_text.specs.Map.{public_line}
use Rattle.place80_text.proofs.public_lines.append_lines.Given as goal

abbrev pub invariant-loop-public : goal.invariant-loop-public
invariant-loop-public l =
    l.text.items ≡ l.initial.text.items ++ flat_map (public_line l.segments) (map (λ p. p.now) (take l.public-index l.listed))
