use Rattle.std.proofs.Common.{◌≡◌, ◌++◌, take}
use Rattle.std.specs.List.{flat_map}
use Rattle.image80_text.specs.Listing.{range_lines}
use Rattle.image80_text.proofs.list_text.append_ranges.Given as goal

abbrev pub invariant-loop-range : goal.invariant-loop-range
invariant-loop-range l = l.text.items ≡ l.initial.text.items ++ flat_map (range_lines l.memory) (take l.range-index l.ranges)
