-- The bytes that the contents of a module define in CODE, each as a half of a value plus an addend.
-- (8080 Object Module Formats: content, relocation, intersegment reference and external reference records; ISIS-II User's
-- Guide, LOCATE: of two contents over a byte the later one stands.)
use Rattle.std.specs.Prelude.{◌≡◌, ℕ, suc, ◌+◌, ◌-◌, ◌*◌, ◌%◌, ◌==◌, nat_le, nat_lt, Bool, ◌&&◌, if◌then◌else◌, Option, None, List}
use Rattle.std.specs.Prelude.{[], ◌∷◌, length, map, filter, filter_map, find, take, slice_index, slice_index_or, ◌≤◌, ◌<◌, IsTrue}
use Rattle.std.specs.List.{last_or, list_any, range_with_len}
use Rattle.std.specs.Option.{option_map_or}
use Rattle.omf_core.specs.Name.{same_name}
use Rattle.omf_core.specs.SegmentId.{code_id}
use Rattle.omf_body.specs.declared.field.Field.{Field}
use Rattle.omf_body.specs.declared.field.Field.TheVariants as field
use Rattle.omf_model.specs.declared.fixup.Fixup.{Fixup}
use Rattle.omf_model.specs.declared.fixup.Target.{Target}
use Rattle.omf_model.specs.declared.fixup.Target.TheVariants as target
use Rattle.omf_model.specs.Contents.{ContentValue, offsets_by}
use Rattle.omf_model.specs.Segments.{segment_in}
use Rattle.omf_model.specs.Modules.{ModuleValue}
use Rattle.omf_model.specs.ImageByte.{name_at, patch_with}
use Rattle.omf_model.specs.Patches.{word_in_bytes, is_inside_bytes}
use Rattle.rom80_pattern.specs.declared.code_byte.Half.TheVariants as half
use Rattle.rom80_pattern.specs.declared.code_byte.CodeByte.{CodeByte}
use Rattle.rom80_pattern.specs.declared.resolving.Resolved.{Resolved}

-- the index of the first of these names that is this one, and their number if none is
abbrev pub first_with : List (List ℕ) → List ℕ → ℕ
first_with [] name = 0
first_with (n ∷ ns) name = if same_name n name then 0 else suc (first_with ns name)

-- What an external stands for: the place of the module's own public of that name, or else the word of the first external of
-- that name.
abbrev pub resolved_external : ModuleValue → ℕ → Resolved
resolved_external m index = option_map_or
    (λ p. record { target = target.Segment p.segment; addend = p.offset })
    (find (λ p. same_name p.name (name_at m.externals index)) m.publics)
    (record { target = target.External (first_with (take index m.externals) (name_at m.externals index)); addend = 0 })

-- what a fixup's target stands for
abbrev pub resolved : ModuleValue → Target → Resolved
resolved m (target.Segment id) = record { target = target.Segment id; addend = 0 }
resolved m (target.External index) = resolved_external m index

-- the fixup has the byte with this index in its content
abbrev pub has_byte : ContentValue → ℕ → Fixup → Bool
has_byte c i f = list_any (λ o. o == i) (offsets_by f.field (f.offset - c.offset))

-- a byte outside fixups
abbrev pub plain_byte : ContentValue → ℕ → CodeByte
plain_byte c i = record { offset = c.offset + i; half = half.Low; target = target.Segment 0; addend = slice_index c.bytes i }

-- a byte of a fixup: a low byte is an addend of its value, a high byte 256 times such a one, and both are one
abbrev pub field_byte : Field → Resolved → ContentValue → (at i : ℕ) → CodeByte
field_byte field.Low r c at i = record { offset = c.offset + i; half = half.Low; target = r.target; addend = (r.addend + slice_index c.bytes at) % 65536 }
field_byte field.High r c at i = record { offset = c.offset + i; half = half.High; target = r.target; addend = (r.addend + 256 * slice_index c.bytes at) % 65536 }
field_byte field.Both r c at i = record {
  offset = c.offset + i;
  half = if i == at then half.Low else half.High;
  target = r.target;
  addend = (r.addend + word_in_bytes c.bytes at) % 65536;
}

-- the byte of a fixup, by its index in the content
abbrev pub fixup_byte : ModuleValue → ContentValue → ℕ → Fixup → CodeByte
fixup_byte m c i f = field_byte f.field (resolved m f.target) c (f.offset - c.offset) i

-- a byte of a content, by its index in it and by these fixups
abbrev pub byte_by_fixups : ModuleValue → ContentValue → ℕ → List Fixup → CodeByte
byte_by_fixups m c i fixups = option_map_or (fixup_byte m c i) (find (has_byte c i) fixups) (plain_byte c i)

-- the byte of a content at an offset in CODE
abbrev pub byte_in : ModuleValue → (offset : ℕ) → ContentValue → CodeByte
byte_in m offset c = byte_by_fixups m c (offset - c.offset) c.fixups

-- the content has a byte at this offset, whatever its segment
abbrev pub covers : ℕ → ContentValue → Bool
covers offset c = nat_le c.offset offset && nat_lt (offset - c.offset) (length c.bytes)

-- the content is in CODE and has a byte at this offset
abbrev pub covers_code : ℕ → ContentValue → Bool
covers_code offset c = c.segment == code_id && covers offset c

-- the byte at an offset in CODE, by the last of the contents that cover it
abbrev pub code_byte_at : ModuleValue → (offset : ℕ) → Option CodeByte
code_byte_at m offset = last_or None (map (byte_in m offset) (filter (covers_code offset) m.contents))

-- the length of CODE
abbrev pub code_length : ModuleValue → ℕ
code_length m = (segment_in m.segments code_id).length

-- the bytes that the contents define in CODE, in ascending order of offsets
abbrev pub code_bytes : ModuleValue → List CodeByte
code_bytes m = filter_map (code_byte_at m) (range_with_len 0 (code_length m))

-- a fixup lies in a content
pub record IsWithin (c : ContentValue) (f : Fixup) : Type 0 where
  pub begin : c.offset ≤ f.offset
  pub inside : IsTrue (is_inside_bytes (length c.bytes) (patch_with (λ _. 0) c.offset f))

-- the table has for each offset in CODE the byte there
pub record IsTable (m : ModuleValue) (table : List (Option CodeByte)) : Type 0 where
  pub whole : length table ≡ code_length m
  pub each : (o : ℕ) → o < code_length m → slice_index_or table o None ≡ code_byte_at m o
