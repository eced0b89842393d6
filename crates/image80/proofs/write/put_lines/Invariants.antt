use Rattle.std.proofs.Common.{◌≡◌, ◌++◌, ◌∷◌, [], drop}
use Rattle.std.specs.List.{flat_map}
use Rattle.image80.specs.RegionsText.{range_text}
use Rattle.image80.proofs.write.put_lines.Given as goal

-- the lines so far, and those of the ranges that are left
abbrev pub invariant-loop-range : goal.invariant-loop-range
invariant-loop-range l =
    l.text.items ++ flat_map (λ range. (l.keyword ++ range_text range) ++ 10 ∷ []) (drop l.range-index l.ranges)
    ≡ l.initial.text.items ++ flat_map (λ range. (l.keyword ++ range_text range) ++ 10 ∷ []) l.ranges
