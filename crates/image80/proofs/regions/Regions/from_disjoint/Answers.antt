use Rattle.std.proofs.Common.{refl}
use Rattle.image80.specs.Regions.{AreRegions}
use Rattle.image80.proofs.RegionsLemmas.{arranged}
use Rattle.image80.proofs.regions.Regions.from_disjoint.Goals as goal

pub invariant_of-result : goal.invariant_of-result
invariant_of-result c =
    arranged c.args.code.items _ c.args.stack c.args.data_ranges.items _ c.requires.code_filled c.requires.data_filled c.requires.code_in_memory c.requires.stack_in_memory c.requires.data_in_memory
    c.requires.disjoint c.sort.ensures.same c.sort.ensures.by_first c.sort-2.ensures.same c.sort-2.ensures.by_first _ c.new.ensures.items

pub returns : goal.returns
returns c =
    let rules : AreRegions (record { code = c.sort.new.ranges.items; stack = c.args.stack; data_ranges = c.sort-2.new.ranges.items; cases = c.new.result.items }) = invariant_of-result c in
    record { same_code = c.sort.ensures.same; same_stack = refl; same_data = c.sort-2.ensures.same; no_cases = c.new.ensures.items; rules = rules }
