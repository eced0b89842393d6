use Rattle.std.specs.Prelude.{◌≤◌, ℕ, List, length, map, IsTrue}
use Rattle.std.specs.List.{AllByRecursion}
use Rattle.std.proofs.Common.{◌∙◌, ap, sym, subst}
use Rattle.omf_model.specs.Contents.{ContentValue}
use Rattle.omf_model.specs.declared.fixup.Fixup.{Fixup}
use Rattle.omf_model.specs.declared.patching.Patch.{Patch}
use Rattle.omf_model.specs.Patches.{are_inside, are_apart}
use Rattle.omf_model.specs.ImageByte.{patch_with}
use Rattle.place80.specs.Locating.{word_among}
use Rattle.place80.proofs.located_chunks.located_chunk.Goals as goal

pub patches_of-requires : goal.patches_of-requires
patches_of-requires c =
    let fixups = c.deref-2.ensures.value ∙ ap (λ (k : ContentValue). k.fixups) c.content.view_is in
    let offset = ap (λ (k : ContentValue). k.offset) c.content.view_is in
    subst (λ (n : ℕ). AllByRecursion (λ f. n ≤ f.offset) c.deref-2.result.now) (sym offset)
    (subst (λ (fs : List Fixup). AllByRecursion (λ f. c.args.content.now.offset ≤ f.offset) fs) (sym fixups) c.requires.begin)

pub apply_patches-requires-clause-inside : goal.apply_patches-requires-clause-inside
apply_patches-requires-clause-inside c =
    let word = word_among c.args.segments.now in
    let fixups = c.deref-2.ensures.value ∙ ap (λ (k : ContentValue). k.fixups) c.content.view_is in
    let offset = ap (λ (k : ContentValue). k.offset) c.content.view_is in
    let patches = c.deref-3.ensures.value ∙ c.in_ok-patches.ensures ∙ ap (map (patch_with word c.content.inside.offset)) fixups
    ∙ ap (λ (n : ℕ). map (patch_with word n) c.args.content.now.fixups) offset in
    let bytes = c.deref_mut.ensures.value ∙ c.in_ok-bytes.ensures.items ∙ c.deref.ensures.value
    ∙ ap (λ (k : ContentValue). k.bytes) c.content.view_is in
    subst (λ (ps : List Patch). IsTrue (are_inside (length c.deref_mut.result.now) ps)) (sym patches)
    (subst (λ (bs : List ℕ). IsTrue
    (are_inside (length bs) (map (patch_with word c.args.content.now.offset) c.args.content.now.fixups)))
    (sym bytes) c.requires.inside)

pub apply_patches-requires-clause-apart : goal.apply_patches-requires-clause-apart
apply_patches-requires-clause-apart c =
    let word = word_among c.args.segments.now in
    let fixups = c.deref-2.ensures.value ∙ ap (λ (k : ContentValue). k.fixups) c.content.view_is in
    let offset = ap (λ (k : ContentValue). k.offset) c.content.view_is in
    let patches = c.deref-3.ensures.value ∙ c.in_ok-patches.ensures ∙ ap (map (patch_with word c.content.inside.offset)) fixups
    ∙ ap (λ (n : ℕ). map (patch_with word n) c.args.content.now.fixups) offset in
    subst (λ (ps : List Patch). IsTrue (are_apart ps)) (sym patches) c.requires.apart
