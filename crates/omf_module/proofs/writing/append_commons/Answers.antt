use Rattle.std.proofs.Common.{ℕ, [], ◌∷◌, List, ap}
use Rattle.omf_body.specs.declared.body.Body.TheVariants.{NamedCommons}
use Rattle.omf_module.specs.Writing.{common_body}
use Rattle.omf_module.proofs.WritingLemmas.{one_written, one_fits}
use Rattle.omf_module.proofs.WrittenSound.{common_short}
use Rattle.omf_module.proofs.writing.append_commons.Goals as goal

pub loop-common-preserved : goal.loop-common-preserved
loop-common-preserved c =
    one_written common_body c.args.commons.now c.loop-common.common-index c.common-item.result c.args.out.now.items _ _ _ _
    c.loop-common.invariant c.loop-common-test.true c.common-item.is c.put_commons.ensures c.in_ok-never_too_long.ensures
    (ap (λ (n : List ℕ). NamedCommons (record { id = c.common-item.result.id; name = n } ∷ [])) c.name_bytes.ensures.value)

pub never_too_long-requires : goal.never_too_long-requires
never_too_long-requires c =
    one_fits _ (common_body c.common-item.result) _ _ _ c.put_commons.ensures (ap
    (λ (n : List ℕ). NamedCommons (record { id = c.common-item.result.id; name = n } ∷ [])) c.name_bytes.ensures.value)
    (common_short c.common-item.result c.name_bytes.ensures.name)
