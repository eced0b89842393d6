-- The chunk of a linked content is that of the content.
use Rattle.std.specs.Prelude.{◌≡◌, ℕ, ◌+◌, ◌-◌, ◌%◌, ◌==◌, false, not, ◌&&◌, Option, Some, None, option_map, unwrap_or, List, [], ◌∷◌, length, map, filter_map, refl, IsTrue}
use Rattle.std.specs.List.{list_any, cons_option, enumerate_from, AllByRecursion}
use Rattle.std.proofs.Common.{◌∙◌, ap, sym, arith, inr, eqb-true}
use Rattle.std.proofs.lemmas.Bool.{not-false, or_parts}
use Rattle.omf_body.specs.declared.field.Field.{Field}
use Rattle.omf_body.specs.declared.field.Field.TheVariants.{High}
use Rattle.omf_model.specs.declared.fixup.Fixup.{Fixup}
use Rattle.omf_model.specs.declared.fixup.Target.{Target}
use Rattle.omf_model.specs.Contents.{ContentValue}
use Rattle.omf_model.specs.Modules.{ModuleValue}
use Rattle.omf_model.specs.Rules.{has_target}
use Rattle.omf_model.specs.declared.patching.Patch.{Patch}
use Rattle.omf_model.specs.Patches.{with_patches}
use Rattle.omf_model.specs.PatchLaws.{patch_by, TwoWords, first_patch, second_patch, total_patch, AddsUp, TwoPassesAreOne}
use Rattle.omf_model.specs.Place.{Bases, part_start, place_in}
use Rattle.omf_model.specs.ImageByte.{target_word, patch_of, chunk_of}
use Rattle.omf_model.specs.HighReferences.{is_high, loses_low_byte}
use Rattle.omf_model.specs.SoundModules.{LiesIn, as_patch, HasItsFixups, PartsOfOneStartAtZero}
use Rattle.link80.specs.Linked.{linked_reference, fixup_to, linked_fixup, linked_content, linked}
use Rattle.link80.proofs.ListLemmas.{map_map}
use Rattle.link80.proofs.PlaceLemmas.{Listed, few_commons, content_place}
use Rattle.link80.proofs.ReferenceLemmas.{second_word, all_listed, reference_adds_up}

-- a reference with the word of LINK, that of LOCATE, and both
abbrev words_of : List ℕ → List ModuleValue → Bases → ℕ × ModuleValue → ContentValue → Fixup → TwoWords
words_of name modules bases m c f = record {
  at = f.offset - c.offset;
  field = f.field;
  first = (linked_reference modules m f.target).word;
  second = second_word bases (linked name modules) (linked_reference modules m f.target).target;
  total = target_word bases modules m f.target;
}

-- the references that are left, as patches
left_patch : (bases : Bases) (l : ModuleValue) (c d : ContentValue) (start : ℕ) (f : Fixup) (o : Option Target)
    → d.offset ≡ c.offset + start →
    option_map (patch_by f.field (f.offset - c.offset)) (second_word bases l o)
    ≡ option_map (patch_of bases (l ∷ []) (0, l) d) (option_map (fixup_to start f) o)
left_patch bases l c d start f None moved = refl
left_patch bases l c d start f (Some t) moved =
    let same : f.offset - c.offset ≡ f.offset + start - d.offset = omega (arith, moved) in
    ap (λ (n : ℕ). Some (patch_by f.field n (target_word bases (l ∷ []) (0, l) t))) same

left_patches : (name : List ℕ) (modules : List ModuleValue) (bases : Bases) (m : ℕ × ModuleValue) (c d : ContentValue)
    → d.offset ≡ c.offset + part_start modules m.0 c.segment → (fs : List Fixup) →
    filter_map second_patch (map (words_of name modules bases m c) fs)
    ≡ map (patch_of bases (linked name modules ∷ []) (0, linked name modules) d) (filter_map (linked_fixup modules m c) fs)
left_patches name modules bases m c d moved [] = refl
left_patches name modules bases m c d moved (f ∷ fs) =
    let l : ModuleValue = linked name modules in
    let rest : List Patch = filter_map second_patch (map (words_of name modules bases m c) fs) in
    let start : ℕ = part_start modules m.0 c.segment in
    ap (λ (o : Option Patch). cons_option o rest)
    (left_patch bases l c d start f (linked_reference modules m f.target).target moved)
    ∙ ap (λ (ps : List Patch). cons_option (option_map (patch_of bases (l ∷ []) (0, l) d) (linked_fixup modules m c f)) ps)
    (left_patches name modules bases m c d moved fs)
    ∙ mapped (patch_of bases (l ∷ []) (0, l) d) (linked_fixup modules m c f) (filter_map (linked_fixup modules m c) fs)
  where
    mapped : (make : Fixup → Patch) (o : Option Fixup) (gs : List Fixup)
        → cons_option (option_map make o) (map make gs) ≡ map make (cons_option o gs)
    mapped make None gs = refl
    mapped make (Some g) gs = refl

-- no reference that is left loses its low byte
even_second : (bases : Bases) (l : ModuleValue) (start : ℕ) (f : Fixup) (o : Option Target) (gs : List Fixup)
    → list_any (loses_low_byte bases (l ∷ []) (0, l)) (cons_option (option_map (fixup_to start f) o) gs) ≡ false →
    (f.field ≡ High → unwrap_or (second_word bases l o) 0 % 256 ≡ 0)
    × (list_any (loses_low_byte bases (l ∷ []) (0, l)) gs ≡ false)
even_second bases l start f None gs none = ((λ high. refl), none)
even_second bases l start f (Some t) gs none =
    let word : ℕ = target_word bases (l ∷ []) (0, l) t in
    let parts = or_parts (is_high f.field && not (word % 256 == 0)) (list_any (loses_low_byte bases (l ∷ []) (0, l)) gs) none in (
      (λ high. eqb-true (word % 256) 0
          (not-false (word % 256 == 0) (sym (ap (λ (field : Field). is_high field && not (word % 256 == 0)) high) ∙ parts.0))),
      parts.1,
    )

all_add_up : PartsOfOneStartAtZero
    → (name : List ℕ) (modules : List ModuleValue) (bases : Bases) (m : ℕ × ModuleValue) (c : ContentValue) → few_commons modules
    → all_listed modules (enumerate_from 0 modules) → Listed modules m.1 →
    (fs : List Fixup) → AllByRecursion (λ f. IsTrue (has_target m.1.commons (length m.1.externals) f.target)) fs →
    list_any (loses_low_byte bases (linked name modules ∷ []) (0, linked name modules)) (filter_map (linked_fixup modules m c) fs)
    ≡ false →
    AllByRecursion AddsUp (map (words_of name modules bases m c) fs)
all_add_up zero_start name modules bases m c few all listed [] there none = _
all_add_up zero_start name modules bases m c few all listed (f ∷ fs) there none =
    let even = even_second bases (linked name modules) (part_start modules m.0 c.segment) f
    (linked_reference modules m f.target).target (filter_map (linked_fixup modules m c) fs) none in (
      record {
        sum = reference_adds_up zero_start name modules bases m f.target few all listed there.0;
        even = λ high. inr (even.0 high);
      },
      all_add_up zero_start name modules bases m c few all listed fs there.1 even.1,
    )

-- the bytes of a content
bytes_same : TwoPassesAreOne → PartsOfOneStartAtZero
    → (name : List ℕ) (modules : List ModuleValue) (bases : Bases) (m : ℕ × ModuleValue) (c : ContentValue) → few_commons modules
    → all_listed modules (enumerate_from 0 modules) → Listed modules m.1 →
    HasItsFixups m.1 c → list_any (loses_low_byte bases (linked name modules ∷ []) (0, linked name modules))
    (linked_content modules m c).fixups ≡ false →
    with_patches (map (patch_of bases (linked name modules ∷ []) (0, linked name modules) (linked_content modules m c))
    (linked_content modules m c).fixups) (linked_content modules m c).bytes
    ≡ with_patches (map (patch_of bases modules m c) c.fixups) c.bytes
bytes_same two_passes zero_start name modules bases m c few all listed fixups none =
    let words : List TwoWords = map (words_of name modules bases m c) c.fixups in
    let word : Fixup → ℕ = λ f. (linked_reference modules m f.target).word in
    let firsts : map first_patch words ≡ map (as_patch c.offset word) c.fixups =
    map_map first_patch (words_of name modules bases m c) c.fixups in
    let totals : map total_patch words ≡ map (patch_of bases modules m c) c.fixups =
    map_map total_patch (words_of name modules bases m c) c.fixups in
    let seconds : filter_map second_patch words
    ≡ map (patch_of bases (linked name modules ∷ []) (0, linked name modules) (linked_content modules m c))
    (linked_content modules m c).fixups =
    left_patches name modules bases m c (linked_content modules m c) refl c.fixups in
    sym (ap (λ (ps : List Patch). with_patches ps (with_patches (map first_patch words) c.bytes)) seconds
    ∙ ap (λ (ps : List Patch). with_patches
    (map (patch_of bases (linked name modules ∷ []) (0, linked name modules) (linked_content modules m c))
    (linked_content modules m c).fixups) (with_patches ps c.bytes)) firsts)
    ∙ two_passes words c.bytes (rw firsts (fixups.inside word)) (rw firsts (fixups.apart word))
    (all_add_up zero_start name modules bases m c few all listed c.fixups fixups.targets none)
    ∙ ap (λ (ps : List Patch). with_patches ps c.bytes) totals

pub chunk_same : TwoPassesAreOne → PartsOfOneStartAtZero
    → (name : List ℕ) (modules : List ModuleValue) (bases : Bases) (m : ℕ × ModuleValue) (c : ContentValue) → few_commons modules
    → all_listed modules (enumerate_from 0 modules) → Listed modules m.1 →
    LiesIn m.1 c → HasItsFixups m.1 c
    → list_any (loses_low_byte bases (linked name modules ∷ []) (0, linked name modules)) (linked_content modules m c).fixups
    ≡ false →
    chunk_of bases (linked name modules ∷ []) (0, linked name modules) (linked_content modules m c) ≡ chunk_of bases modules m c
chunk_same two_passes zero_start name modules bases m c few all listed lies fixups none =
    let place = content_place zero_start name modules m.0 m.1 bases c.segment c.offset few listed lies.has lies.not_stack in
    let bytes = bytes_same two_passes zero_start name modules bases m c few all listed fixups none in
    ap (λ (n : ℕ). record {
      place = n;
      bytes = (chunk_of bases (linked name modules ∷ []) (0, linked name modules) (linked_content modules m c)).bytes;
    }) place
    ∙ ap (λ (bs : List ℕ). record { place = place_in bases modules m.0 m.1 c.segment c.offset; bytes = bs }) bytes
