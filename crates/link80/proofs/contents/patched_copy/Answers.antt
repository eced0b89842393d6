use Rattle.std.specs.Prelude.{ℕ, List, length, IsTrue}
use Rattle.std.proofs.Common.{◌∙◌, sym, subst}
use Rattle.omf_model.specs.Patches.{are_inside}
use Rattle.link80.proofs.contents.patched_copy.Goals as goal

pub apply_patches-requires-clause-inside : goal.apply_patches-requires-clause-inside
apply_patches-requires-clause-inside c =
    let same = c.deref_mut.ensures.value ∙ c.in_ok-copy.ensures.items in
    subst (λ (bytes : List ℕ). IsTrue (are_inside (length bytes) c.args.patches.now)) (sym same) c.requires.inside
