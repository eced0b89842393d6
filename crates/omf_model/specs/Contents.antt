-- Content records and the references in them.
-- (8080 Object Module Formats: content, relocation, intersegment reference and external reference records.)
use Rattle.std.specs.Prelude.{ℕ, ◌+◌, ◌==◌, Bool, ◌&&◌, nat_lt, nat_le, List, [], ◌∷◌}
use Rattle.std.specs.List.{list_all, list_any}
use Rattle.omf_body.specs.declared.field.Field.{Field}
use Rattle.omf_body.specs.declared.field.Field.TheVariants.{Low, High, Both}
use Rattle.omf_model.specs.declared.fixup.Fixup.{Fixup}

-- a content record with the references in it, by offsets in its segment
pub record ContentValue : Type 0 where
  pub segment : ℕ
  pub offset : ℕ
  pub bytes : List ℕ
  pub fixups : List Fixup

-- the offsets of the bytes of a reference, in its segment
abbrev pub offsets_by : Field → ℕ → List ℕ
offsets_by Low offset = offset ∷ []
offsets_by High offset = offset ∷ []
offsets_by Both offset = offset ∷ (offset + 1) ∷ []

abbrev pub offsets_of : Fixup → List ℕ
offsets_of f = offsets_by f.field f.offset

-- one of the references has a byte at this offset
abbrev pub is_taken : List Fixup → ℕ → Bool
is_taken fixups offset = list_any (λ f. list_any (λ o. o == offset) (offsets_of f)) fixups

-- a byte of the reference is one of another reference
abbrev pub shares_a_byte : List Fixup → Fixup → Bool
shares_a_byte others f = list_any (is_taken others) (offsets_of f)

-- the offset is one of the `size` bytes from `first` on
abbrev pub is_among : ℕ → ℕ → ℕ → Bool
is_among first size offset = nat_le first offset && nat_lt offset (first + size)

-- each byte of the reference is one of those bytes
abbrev pub is_inside : ℕ → ℕ → Fixup → Bool
is_inside first size f = list_all (is_among first size) (offsets_of f)
