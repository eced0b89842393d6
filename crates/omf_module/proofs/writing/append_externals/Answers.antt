use Rattle.std.proofs.Common.{ℕ, [], ◌∷◌, List, ap}
use Rattle.omf_body.specs.declared.body.Body.TheVariants.{ExternalNames}
use Rattle.omf_module.specs.Writing.{external_body}
use Rattle.omf_module.proofs.WritingLemmas.{one_written, one_fits}
use Rattle.omf_module.proofs.WrittenSound.{external_fits}
use Rattle.omf_module.proofs.writing.append_externals.Goals as goal

pub loop-name-preserved : goal.loop-name-preserved
loop-name-preserved c =
    one_written external_body c.args.externals.now c.loop-name.name-index c.name-item.result c.args.out.now.items _ _ _ _
    c.loop-name.invariant c.loop-name-test.true c.name-item.is c.put_externals.ensures c.in_ok-never_too_long.ensures
    (ap (λ (n : List ℕ). ExternalNames (record { name = n; unread = 0 } ∷ [])) c.name_bytes.ensures.value)

pub never_too_long-requires : goal.never_too_long-requires
never_too_long-requires c =
    one_fits _ (external_body c.name-item.result) _ _ _ c.put_externals.ensures (ap (λ (n : List ℕ). ExternalNames (record { name = n; unread = 0 } ∷ [])) c.name_bytes.ensures.value)
    (external_fits c.name-item.result c.name_bytes.ensures.name).short
