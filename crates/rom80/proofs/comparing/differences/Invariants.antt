-- the ranges that are closed, and the bytes that differ since
use Rattle.rom80.proofs.CompareLemmas.{RangesSoFar}
use Rattle.rom80.proofs.comparing.differences.Given as goal

abbrev pub invariant-loop-at : goal.invariant-loop-at
invariant-loop-at l = RangesSoFar l.bytes l.dump l.first l.at l.run l.ranges.items
