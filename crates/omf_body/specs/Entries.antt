-- The entries of each kind of row: their bytes, their listed values, and their fields in order.
-- (8080 Object Module Formats, record formats.)
use Rattle.std.specs.Prelude.{ℕ, ◌==◌, Bool, true, not, ◌&&◌, if◌then◌else◌, List, [], ◌∷◌, ◌++◌, Result, Ok, Err}
use Rattle.omf_core.specs.Name.{is_name, name_spelling}
use Rattle.omf_core.specs.SegmentId.{is_common_id}
use Rattle.omf_body.specs.declared.fault.FieldFault.{FieldFault}
use Rattle.omf_body.specs.declared.fault.FieldFault.TheVariants.{BadBody}
use Rattle.omf_body.specs.declared.entries.SegmentEntry.{SegmentEntry}
use Rattle.omf_body.specs.declared.entries.CommonEntry.{CommonEntry}
use Rattle.omf_body.specs.declared.entries.PublicEntry.{PublicEntry}
use Rattle.omf_body.specs.declared.entries.ExternalEntry.{ExternalEntry}
use Rattle.omf_body.specs.declared.entries.OffsetEntry.{OffsetEntry}
use Rattle.omf_body.specs.declared.entries.IndexEntry.{IndexEntry}
use Rattle.omf_body.specs.Fields.{◌>>=◌, word_bytes, read_byte, read_word, read_name}
use Rattle.omf_body.specs.Layouts.{Layout}

-- ---- a segment of a header: id, length, alignment

abbrev pub segment_bytes : SegmentEntry → List ℕ
segment_bytes e = e.id ∷ (word_bytes e.length ++ e.alignment ∷ [])

abbrev pub read_segment : List ℕ → Result (SegmentEntry × List ℕ) FieldFault
read_segment bytes = do
  id ← read_byte bytes
  length ← read_word id.1
  alignment ← read_byte length.1
  Ok (record { id = id.0; length = length.0; alignment = alignment.0 }, alignment.1)

abbrev pub segment_layout : Layout SegmentEntry
segment_layout = record { bytes = segment_bytes; is_sound = λ e. true; read = read_segment }

-- alignment 3 is any byte; with any other one the part starts at a multiple of 256
abbrev pub is_paged : SegmentEntry → Bool
is_paged e = not (e.alignment == 3)

-- ---- a named common: id and name; the id is checked first

abbrev pub common_bytes : CommonEntry → List ℕ
common_bytes e = e.id ∷ name_spelling e.name

abbrev pub read_common : List ℕ → Result (CommonEntry × List ℕ) FieldFault
read_common bytes = do
  id ← read_byte bytes
  if is_common_id id.0
      then (read_name id.1 >>= λ name. Ok (record { id = id.0; name = name.0 }, name.1))
      else Err BadBody

abbrev pub common_layout : Layout CommonEntry
common_layout = record { bytes = common_bytes; is_sound = λ e. is_common_id e.id && is_name e.name; read = read_common }

-- ---- a public: offset, name, a byte that isn't read

abbrev pub public_bytes : PublicEntry → List ℕ
public_bytes e = word_bytes e.offset ++ name_spelling e.name ++ e.unread ∷ []

abbrev pub read_public : List ℕ → Result (PublicEntry × List ℕ) FieldFault
read_public bytes = do
  offset ← read_word bytes
  name ← read_name offset.1
  unread ← read_byte name.1
  Ok (record { offset = offset.0; name = name.0; unread = unread.0 }, unread.1)

abbrev pub public_layout : Layout PublicEntry
public_layout = record { bytes = public_bytes; is_sound = λ e. is_name e.name; read = read_public }

-- ---- an external: name, a byte that isn't read

abbrev pub external_bytes : ExternalEntry → List ℕ
external_bytes e = name_spelling e.name ++ e.unread ∷ []

abbrev pub read_external : List ℕ → Result (ExternalEntry × List ℕ) FieldFault
read_external bytes = do
  name ← read_name bytes
  unread ← read_byte name.1
  Ok (record { name = name.0; unread = unread.0 }, unread.1)

abbrev pub external_layout : Layout ExternalEntry
external_layout = record { bytes = external_bytes; is_sound = λ e. is_name e.name; read = read_external }

-- ---- a reference to what the record names: offset

abbrev pub offset_bytes : OffsetEntry → List ℕ
offset_bytes e = word_bytes e.offset

abbrev pub read_offset : List ℕ → Result (OffsetEntry × List ℕ) FieldFault
read_offset bytes = do
  offset ← read_word bytes
  Ok (record { offset = offset.0 }, offset.1)

abbrev pub offset_layout : Layout OffsetEntry
offset_layout = record { bytes = offset_bytes; is_sound = λ e. true; read = read_offset }

-- ---- a reference to an external: index, offset

abbrev pub index_bytes : IndexEntry → List ℕ
index_bytes e = word_bytes e.index ++ word_bytes e.offset

abbrev pub read_index : List ℕ → Result (IndexEntry × List ℕ) FieldFault
read_index bytes = do
  index ← read_word bytes
  offset ← read_word index.1
  Ok (record { index = index.0; offset = offset.0 }, offset.1)

abbrev pub index_layout : Layout IndexEntry
index_layout = record { bytes = index_bytes; is_sound = λ e. true; read = read_index }
