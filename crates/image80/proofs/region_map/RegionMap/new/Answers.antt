use Rattle.image80.proofs.RegionMapLemmas.{code_in_memory, data_in_memory, maps}
use Rattle.image80.proofs.region_map.RegionMap.new.Goals as goal

pub mark_all-requires-clause-in_memory : goal.mark_all-requires-clause-in_memory
mark_all-requires-clause-in_memory c = rw c.code.ensures.ranges (code_in_memory c.args.regions.now c.code.ensures.rules)

pub mark_all-requires-2-clause-in_memory : goal.mark_all-requires-2-clause-in_memory
mark_all-requires-2-clause-in_memory c = rw c.data_ranges.ensures.ranges (data_in_memory c.args.regions.now c.data_ranges.ensures.rules)

pub returns : goal.returns
returns c = maps c.args.regions.now _ _ _ c.code.ensures.rules c.in_ok-marks.ensures.zeros (rw c.code.ensures.ranges at c.mark_all.ensures) (rw c.data_ranges.ensures.ranges at c.mark_all-2.ensures)
