use Rattle.std.proofs.Common.{take}
use Rattle.image80.specs.Range.{in_ranges}
use Rattle.image80.specs.RegionMap.{IsMarked}
use Rattle.image80.proofs.region_map.mark_all.Given as goal

-- the ranges so far are marked
abbrev pub invariant-loop-range : goal.invariant-loop-range
invariant-loop-range l = IsMarked l.fn.marks.items (in_ranges (take l.range-index l.ranges)) l.mark l.marks.items
