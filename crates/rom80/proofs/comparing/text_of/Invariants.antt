-- the lines so far, and the ranges that are left lie within the dump
use Rattle.std.proofs.Common.{◌≡◌, ◌++◌, drop, length}
use Rattle.std.specs.List.{AllByRecursion, flat_map}
use Rattle.rom80.specs.Compare.{LieWithin, difference_line}
use Rattle.rom80.proofs.comparing.text_of.Given as goal

abbrev pub invariant-loop-range : goal.invariant-loop-range
invariant-loop-range l = record {
  lines : l.text.items ++ flat_map (difference_line l.bytes l.dump l.first) (drop l.range-index l.ranges) ≡ flat_map (difference_line l.bytes l.dump l.first) l.ranges;
  rules : AllByRecursion (LieWithin l.first (length l.dump)) (drop l.range-index l.ranges);
}
