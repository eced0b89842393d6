use Rattle.std.proofs.Common.{◌≡◌, ◌++◌, take}
use Rattle.std.specs.List.{flat_map}
use Rattle.report80.specs.MemoryText.{range_label}
use Rattle.report80.proofs.memory.append_ranges.Given as goal

abbrev pub invariant-loop-range : goal.invariant-loop-range
invariant-loop-range l = l.page ≡ l.initial.page ++ flat_map (range_label l.word) (take l.range-index l.ranges)
