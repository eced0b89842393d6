use Rattle.std.specs.Prelude.{◌++◌, ◌+◌, drop, length}
use Rattle.std.specs.List.{enumerate_from}
use Rattle.std.proofs.Common.{◌∙◌, ap, arith}
use Rattle.omf_model.specs.Segments.{empty_segment}
use Rattle.link80.proofs.LoopLemmas.{one_numbered_more}
use Rattle.link80.proofs.segments.linked_segments.Goals as goal

pub loop-segment-preserved : goal.loop-segment-preserved
loop-segment-preserved c = (
  ap (λ l. l ++ enumerate_from (c.loop-segment.id + 1) (drop (c.loop-segment.segment-index + 1) c.deref-segment-items.result.now))
      c.in_ok-push.ensures.items
      ∙ one_numbered_more c.deref-segment-items.result.now c.loop-segment.segment-index c.loop-segment.id empty_segment
      c.loop-segment.segments.items c.loop-segment-test.true
      ∙ c.loop-segment.invariant.0,
  omega (arith, c.loop-segment.invariant.1),
)

pub overflow_add-id : goal.overflow_add-id
overflow_add-id c = omega (
  arith,
  c.loop-segment.invariant.1,
  c.in_ok-common_segments.ensures.few,
  ap length c.deref-segment-items.ensures.value,
  c.loop-segment-test.true,
)
