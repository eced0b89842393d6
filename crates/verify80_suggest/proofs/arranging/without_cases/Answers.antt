use Rattle.verify80_suggest.proofs.StackLemmas.{ranges_apart, ranges_arranged, stack_in_memory}
use Rattle.verify80_suggest.proofs.arranging.without_cases.Goals as goal

pub from_disjoint-requires-clause-stack_in_memory : goal.from_disjoint-requires-clause-stack_in_memory
from_disjoint-requires-clause-stack_in_memory c = stack_in_memory _ _ _ _ c.stack_of-stack.ensures

pub from_disjoint-requires-clause-disjoint : goal.from_disjoint-requires-clause-disjoint
from_disjoint-requires-clause-disjoint c =
    ranges_apart c.args.survey.now _ c.args.ram.now c.args.wanted c.in_ok-code.code.items c.stack_of-stack.result c.in_ok-data_ranges.data_ranges.items c.in_ok-taken.taken.items
    c.in_ok-marks.marks.items _ _ _ c.survey.view_is c.deref.ensures.value c.deref-2.ensures.value c.deref-3.ensures.value c.in_ok-code.ensures c.in_ok-taken.ensures
    c.stack_of-stack.ensures c.in_ok-marks.ensures c.in_ok-data_ranges.ensures

pub returns : goal.returns
returns c =
    ranges_arranged c.args.survey.now _ c.args.ram.now c.args.wanted c.in_ok-code.code.items c.stack_of-stack.result c.in_ok-data_ranges.data_ranges.items c.in_ok-taken.taken.items
    c.in_ok-marks.marks.items _ _ _ c.survey.view_is c.deref.ensures.value c.deref-2.ensures.value c.deref-3.ensures.value c.in_ok-code.ensures c.in_ok-taken.ensures
    c.stack_of-stack.ensures c.in_ok-marks.ensures c.in_ok-data_ranges.ensures c.from_disjoint.result c.from_disjoint.ensures
