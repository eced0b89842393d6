use Rattle.std.proofs.Common.{◌∙◌, ap, length, List, ℕ, get_or, [], ◌∷◌}
use Rattle.omf_model.specs.declared.patching.Patch.{Patch}
use Rattle.omf_body.specs.declared.field.Field.TheVariants.{Low}
use Rattle.omf_model.proofs.PatchingLemmas.{length-with_patches, patches_step, patches_inside, patches_done}
use Rattle.omf_model.proofs.patching.apply_patches.Goals as goal

pub loop-patch-preserved : goal.loop-patch-preserved
loop-patch-preserved c =
    let d : Patch = record { at = 0; field = Low; word = 0 } in
    let step = patches_step c.args.patches.now c.loop-patch.patch-index d c.args.bytes.now c.loop-patch.bytes c.apply_patch.new.bytes c.loop-patch-test.true c.loop-patch.invariant.rest c.loop-patch.invariant.apart c.apply_patch.ensures in
    record {
      rest = step.0;
      whole = ap (λ (l : List ℕ). length l) c.apply_patch.ensures ∙ length-with_patches (get_or c.args.patches.now c.loop-patch.patch-index d ∷ []) c.loop-patch.bytes ∙ c.loop-patch.invariant.whole;
      inside = (patches_inside c.args.patches.now c.loop-patch.patch-index d (length c.args.bytes.now) c.loop-patch-test.true c.loop-patch.invariant.inside).1;
      apart = step.1;
    }

pub returns : goal.returns
returns c = patches_done c.args.patches.now c.loop-patch.patch-index c.args.bytes.now c.loop-patch.bytes c.loop-patch-test.false c.loop-patch.invariant.rest
