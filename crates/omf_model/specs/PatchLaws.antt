-- Adding a part's start and then a base is adding their sum.
-- (ISIS-II User's Guide: LINK adds the one, LOCATE the other.)
use Rattle.std.specs.Prelude.{◌≡◌, ◌⊎◌, ℕ, ◌+◌, ◌/◌, ◌%◌, Option, option_map, unwrap_or, List, [], ◌∷◌, length, map, filter_map, IsTrue}
use Rattle.std.specs.List.{AllByRecursion}
use Rattle.omf_body.specs.declared.field.Field.{Field}
use Rattle.omf_body.specs.declared.field.Field.TheVariants.{High}
use Rattle.omf_model.specs.declared.patching.Patch.{Patch}
use Rattle.omf_model.specs.Patches.{with_patches, is_inside_bytes, are_inside, are_apart}

-- to a low byte, and to a word with the carry between its bytes
abbrev pub LowTwice : Type 0
LowTwice = (b u v : ℕ) → ((b + u % 256) % 256 + v % 256) % 256 ≡ (b + (u + v) % 65536 % 256) % 256

abbrev pub BothTwice : Type 0
BothTwice = (w u v : ℕ) → ((w + u) % 65536 + v) % 65536 ≡ (w + (u + v) % 65536) % 65536

-- to a high byte, if one of the two words is a multiple of 256
abbrev pub HighTwice : Type 0
HighTwice = (b u v : ℕ) → (u % 256 ≡ 0) ⊎ (v % 256 ≡ 0) →
    ((b + u / 256 % 256) % 256 + v / 256 % 256) % 256 ≡ (b + (u + v) % 65536 / 256 % 256) % 256

-- The same holds in bytes: a fixup applied with one word and then with another is applied with their sum.
abbrev pub patch_by : Field → ℕ → ℕ → Patch
patch_by field at word = record { at = at; field = field; word = word }

abbrev pub PatchedTwice : Type 0
PatchedTwice =
    (field : Field) (at u v : ℕ) (bytes : List ℕ)
    → IsTrue (is_inside_bytes (length bytes) (patch_by field at u))
    → (field ≡ High → (u % 256 ≡ 0) ⊎ (v % 256 ≡ 0))
    → with_patches (patch_by field at v ∷ []) (with_patches (patch_by field at u ∷ []) bytes)
    ≡ with_patches (patch_by field at ((u + v) % 65536) ∷ []) bytes

-- So it is for all references of a content: each is increased by a first word, and by a second one if it is still a
-- reference then, which adds up to one total.
pub record TwoWords : Type 0 where
  pub at : ℕ
  pub field : Field
  pub first : ℕ
  pub second : Option ℕ
  pub total : ℕ

abbrev pub first_patch : TwoWords → Patch
first_patch w = patch_by w.field w.at w.first

abbrev pub second_patch : TwoWords → Option Patch
second_patch w = option_map (patch_by w.field w.at) w.second

abbrev pub total_patch : TwoWords → Patch
total_patch w = patch_by w.field w.at w.total

-- the words add up; and of a high byte one of the two is a multiple of 256
pub record AddsUp (w : TwoWords) : Type 0 where
  pub sum : w.total % 65536 ≡ (w.first + unwrap_or w.second 0) % 65536
  pub even : w.field ≡ High → (w.first % 256 ≡ 0) ⊎ (unwrap_or w.second 0 % 256 ≡ 0)

abbrev pub TwoPassesAreOne : Type 0
TwoPassesAreOne =
    (words : List TwoWords) (bytes : List ℕ)
    → IsTrue (are_inside (length bytes) (map first_patch words))
    → IsTrue (are_apart (map first_patch words))
    → AllByRecursion AddsUp words
    → with_patches (filter_map second_patch words) (with_patches (map first_patch words) bytes)
    ≡ with_patches (map total_patch words) bytes
