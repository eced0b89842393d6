use Rattle.std.proofs.Common.{arith}
use Rattle.image80.proofs.RegionMapLemmas.{marked-more, marked_all}
use Rattle.image80.proofs.region_map.mark_all.Goals as goal

pub loop-range-preserved : goal.loop-range-preserved
loop-range-preserved c = marked-more c.args.ranges.now c.loop-range.range-index (record { first = 0; length = 0 }) c.args.mark c.args.marks.now.items _ _ (omega arith) c.loop-range.invariant c.mark_range.ensures

pub returns : goal.returns
returns c = marked_all c.args.ranges.now c.loop-range.range-index c.args.mark c.args.marks.now.items _ (omega arith) c.loop-range.invariant
