use Rattle.std.proofs.Common.{ℕ, [], ◌∷◌, List, ap}
use Rattle.omf_body.specs.declared.body.Body.TheVariants.{PublicDeclarations}
use Rattle.omf_module.specs.Writing.{public_body}
use Rattle.omf_module.proofs.WritingLemmas.{one_written, one_fits}
use Rattle.omf_module.proofs.WrittenSound.{public_fits}
use Rattle.omf_module.proofs.writing.append_publics.Goals as goal

pub loop-public-preserved : goal.loop-public-preserved
loop-public-preserved c =
    one_written public_body c.args.publics.now c.loop-public.public-index c.public-item.result c.args.out.now.items _ _ _ _
    c.loop-public.invariant c.loop-public-test.true c.public-item.is c.put_publics.ensures c.in_ok-never_too_long.ensures
    (ap (λ (n : List ℕ). PublicDeclarations
    (record {
      segment = c.public-item.result.segment;
      publics = record { offset = c.public-item.result.offset; name = n; unread = 0 } ∷ [];
    })) c.name_bytes.ensures.value)

pub never_too_long-requires : goal.never_too_long-requires
never_too_long-requires c =
    one_fits _ (public_body c.public-item.result) _ _ _ c.put_publics.ensures (ap
    (λ (n : List ℕ). PublicDeclarations
    (record {
      segment = c.public-item.result.segment;
      publics = record { offset = c.public-item.result.offset; name = n; unread = 0 } ∷ [];
    })) c.name_bytes.ensures.value)
    (public_fits c.public-item.result c.name_bytes.ensures.name).short
