use Rattle.std.specs.Prelude.{◌≤◌}
use Rattle.omf_model.specs.declared.fixup.Fixup.{Fixup}
use Rattle.place80.proofs.LocatedLemmas.{item_has}
use Rattle.place80.proofs.located_chunks.patches_of.Goals as goal

pub overflow_sub-fixup : goal.overflow_sub-fixup
overflow_sub-fixup c = item_has
    (λ (f : Fixup). c.args.first ≤ f.offset) c.args.fixups.now c.loop-fixup.fixup-index _ c.requires c.loop-fixup-test.true
