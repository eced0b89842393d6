use Rattle.std.proofs.Common.{◌∙◌, ap, arith}
use Rattle.std.specs.Prelude.{Bool, is_some, if◌then◌else◌}
use Rattle.loader80_trace.specs.Cover.{is_instruction}
use Rattle.loader80_trace.proofs.CoverLemmas.{tally_all, tally_next}
use Rattle.loader80_trace.proofs.covering.covering.count_all.Goals as goal

pub loop-at-preserved : goal.loop-at-preserved
loop-at-preserved c = (
  tally_next (is_instruction c.args.reached.now) c.loop-at.at c.loop-at.count c.one_if-count.result _ c.loop-at-test.true (c.one_if-count.ensures.value ∙ ap (λ (b : Bool). if b then 1 else 0) (c.is_some.ensures ∙ ap is_some c.reached_at.ensures)) c.loop-at.invariant.0,
  omega (arith, c.loop-at.invariant.1, c.one_if-count.ensures.few),
)

pub returns : goal.returns
returns c = tally_all (is_instruction c.args.reached.now) c.loop-at.at c.loop-at.count _ c.loop-at-test.false c.loop-at.invariant.0
