-- What the rules of a module say of its commons, its contents and the fixups in them, one by one; and of the places of a
-- module alone. (8080 Object Module Formats; ISIS-II User's Guide, LOCATE.)
use Rattle.std.specs.Prelude.{◌≡◌, ℕ, ◌+◌, ◌-◌, ◌≤◌, ◌==◌, true, false, List, [], ◌∷◌, length, map, IsTrue}
use Rattle.std.specs.List.{AllByRecursion}
use Rattle.omf_core.specs.SegmentId.{stack_id}
use Rattle.omf_model.specs.declared.symbols.Common.{Common}
use Rattle.omf_model.specs.declared.fixup.Fixup.{Fixup}
use Rattle.omf_model.specs.Contents.{ContentValue}
use Rattle.omf_model.specs.Segments.{has_common_id, has_segment}
use Rattle.omf_model.specs.Modules.{ModuleValue}
use Rattle.omf_model.specs.Rules.{each_after, is_new_common, has_target, has_fitting, end_of, is_start, is_sound}
use Rattle.omf_model.specs.declared.patching.Patch.{Patch}
use Rattle.omf_model.specs.Patches.{are_inside, are_apart}
use Rattle.omf_model.specs.Place.{word_of, common_name, part_start}

-- a content lies within a segment that the module has and that isn't STACK, and fits one record
pub record LiesIn (m : ModuleValue) (c : ContentValue) : Type 0 where
  pub has : has_segment m.commons c.segment ≡ true
  pub not_stack : (c.segment == stack_id) ≡ false
  pub within : c.offset + length c.bytes ≤ end_of m.segments c.segment
  pub in_record : length c.bytes ≤ 65531

-- a fixup as a patch of bytes whose first one has the offset `first`, if it adds this word
abbrev pub as_patch : ℕ → (Fixup → ℕ) → Fixup → Patch
as_patch first word f = record { at = f.offset - first; field = f.field; word = word f }

-- The fixups of a content keep their rules: they begin in it and their targets exist; as patches, whatever words they add, they
-- lie inside its bytes and share none of them.
pub record HasItsFixups (m : ModuleValue) (c : ContentValue) : Type 0 where
  pub fitting : IsTrue (has_fitting m.commons (length m.externals) c)
  pub begin : AllByRecursion (λ f. c.offset ≤ f.offset) c.fixups
  pub targets : AllByRecursion (λ f. IsTrue (has_target m.commons (length m.externals) f.target)) c.fixups
  pub inside : (word : Fixup → ℕ) → IsTrue (are_inside (length c.bytes) (map (as_patch c.offset word) c.fixups))
  pub apart : (word : Fixup → ℕ) → IsTrue (are_apart (map (as_patch c.offset word) c.fixups))

-- the rules, one by one
pub record RulesOf (m : ModuleValue) : Type 0 where
  pub commons : IsTrue (each_after is_new_common [] m.commons)
  pub ids : (id : ℕ) → has_common_id m.commons id ≡ true → (6 ≤ id) × (id ≤ 254)
  pub publics : AllByRecursion (λ p. has_segment m.commons p.segment ≡ true) m.publics
  pub contents : AllByRecursion (LiesIn m) m.contents
  pub fixups : AllByRecursion (HasItsFixups m) m.contents
  pub start : IsTrue (is_start m.commons m.start)

abbrev pub SoundModulesKeepRules : Type 0
SoundModulesKeepRules = (m : ModuleValue) → IsTrue (is_sound m) → RulesOf m

-- what stands beside the name of a common is what its id gives
abbrev pub CommonsByName : Type 0
CommonsByName =
    (commons : List Common) (base : ℕ → ℕ) (id : ℕ)
    → IsTrue (each_after is_new_common [] commons)
    → has_common_id commons id ≡ true
    → word_of (map (λ c. (c.name, base c.id)) commons) (common_name commons id) ≡ base id

-- the part of a module alone starts where its segment does
abbrev pub PartsOfOneStartAtZero : Type 0
PartsOfOneStartAtZero = (m : ModuleValue) (id : ℕ) → part_start (m ∷ []) 0 id ≡ 0
