use Rattle.std.specs.Prelude.{◌+◌, drop, map}
use Rattle.std.proofs.Common.{◌∙◌, ap}
use Rattle.omf_model.specs.declared.symbols.Common.{Common}
use Rattle.link80.specs.FirstSight.{with_names}
use Rattle.link80.proofs.LoopLemmas.{one_name_more}
use Rattle.link80.proofs.commons.add_commons.Goals as goal

pub loop-common-preserved : goal.loop-common-preserved
loop-common-preserved c = (
  ap (λ names. with_names names
      (map (λ (k : Common). k.name) (drop (c.loop-common.common-index + 1) c.commons-common-items.result.now)))
      c.in_ok-add_name.ensures.names
      ∙ one_name_more (λ (k : Common). k.name) c.commons-common-items.result.now c.loop-common.common-index c.common-item.result
      c.loop-common.names c.loop-common-test.true c.common-item.is
      ∙ c.loop-common.invariant.0,
  λ same. c.in_ok-add_name.ensures.copies (c.loop-common.invariant.1 same),
)
