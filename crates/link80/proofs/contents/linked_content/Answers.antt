use Rattle.std.specs.Prelude.{◌≡◌, ◌+◌, ℕ, List, length, map}
use Rattle.std.proofs.Common.{◌∙◌, ap, sym, subst, arith, IsTrue}
use Rattle.std.proofs.lemmas.Option.{slice_get_within}
use Rattle.omf_model.specs.Contents.{ContentValue}
use Rattle.omf_model.specs.Modules.{ModuleValue}
use Rattle.omf_model.specs.declared.patching.Patch.{Patch}
use Rattle.omf_model.specs.Patches.{are_inside, are_apart, with_patches}
use Rattle.omf_model.specs.Place.{part_start}
use Rattle.link80.specs.Linked.{linked_id, linked_reference, link_patch}
use Rattle.link80.proofs.contents.linked_content.Goals as goal

pub start-requires : goal.start-requires
start-requires c = omega
    (arith, slice_get_within c.args.tables.now c.args.number c.args.source.now c.requires.here, ap length c.tables.view_is)

pub patched_copy-requires-clause-inside : goal.patched_copy-requires-clause-inside
patched_copy-requires-clause-inside c =
    let patches_are : c.deref-2.result.now
    ≡ map (link_patch c.args.tables.now (c.args.number, c.args.source.now) c.args.content.now) c.args.content.now.fixups =
    c.deref-2.ensures.value ∙ c.in_ok-patches.ensures.patches in
    let read_is : c.deref.result.now ≡ c.args.content.now.bytes = c.deref.ensures.value
    ∙ ap (λ (k : ContentValue). k.bytes) c.content.view_is in
    subst (λ (ps : List Patch). IsTrue (are_inside (length c.deref.result.now) ps)) (sym patches_are)
    (subst (λ (bytes : List ℕ). IsTrue
    (are_inside (length bytes)
    (map (link_patch c.args.tables.now (c.args.number, c.args.source.now) c.args.content.now) c.args.content.now.fixups)))
    (sym read_is)
    (c.requires.movable.fixups.inside
    (λ f. (linked_reference c.args.tables.now (c.args.number, c.args.source.now) f.target).word)))

pub patched_copy-requires-clause-apart : goal.patched_copy-requires-clause-apart
patched_copy-requires-clause-apart c =
    let patches_are : c.deref-2.result.now
    ≡ map (link_patch c.args.tables.now (c.args.number, c.args.source.now) c.args.content.now) c.args.content.now.fixups =
    c.deref-2.ensures.value ∙ c.in_ok-patches.ensures.patches in
    subst (λ (ps : List Patch). IsTrue (are_apart ps)) (sym patches_are)
    (c.requires.movable.fixups.apart (λ f. (linked_reference c.args.tables.now (c.args.number, c.args.source.now) f.target).word))

pub returns : goal.returns
returns c =
    let segment_is = c.linked_id.ensures
    ∙ ap (λ (ms : List ModuleValue). linked_id ms c.args.source.now c.content.inside.segment) c.tables.view_is
    ∙ ap (λ (k : ContentValue). linked_id c.args.tables.now c.args.source.now k.segment) c.content.view_is in
    let start_is = c.start.ensures
    ∙ ap (λ (ms : List ModuleValue). part_start ms c.args.number c.content.inside.segment) c.tables.view_is
    ∙ ap (λ (k : ContentValue). part_start c.args.tables.now c.args.number k.segment) c.content.view_is in
    let offset_is = ap (λ (n : ℕ). c.content.inside.offset + n) start_is
    ∙ ap (λ (k : ContentValue). k.offset + part_start c.args.tables.now c.args.number c.args.content.now.segment)
    c.content.view_is in
    let read_is : c.deref.result.now ≡ c.args.content.now.bytes = c.deref.ensures.value
    ∙ ap (λ (k : ContentValue). k.bytes) c.content.view_is in
    let bytes_are = c.in_ok-bytes.ensures ∙ ap (with_patches c.deref-2.result.now) read_is
    ∙ ap (λ (ps : List Patch). with_patches ps c.args.content.now.bytes) (c.deref-2.ensures.value
    ∙ c.in_ok-patches.ensures.patches) in
    λ j. record { segment = segment_is j; offset = offset_is j; bytes = bytes_are j; fixups = c.in_ok-patches.ensures.left j }
