-- The first fault of a body. (The faults and their order are this project's own.)
use Rattle.std.specs.Prelude.{◌≡◌, ◌≢◌, ℕ, ◌==◌, ◌⊎◌, false, if◌then◌else◌, Option, Some, None, List, [], ◌∷◌, Result, Ok, Err}
use Rattle.omf_core.specs.declared.kind.RecordKind.{RecordKind}
use Rattle.omf_core.specs.declared.kind.RecordKind.TheVariants as kind
use Rattle.omf_core.specs.Kind.{kind_byte}
use Rattle.omf_body.specs.declared.fault.FieldFault.{FieldFault}
use Rattle.omf_body.specs.declared.fault.FieldFault.TheVariants as field
use Rattle.omf_body.specs.declared.fault.BodyFault.{BodyFault}
use Rattle.omf_body.specs.declared.fault.BodyFault.TheVariants as fault
use Rattle.omf_body.specs.declared.field.Field.{Field}
use Rattle.omf_body.specs.declared.entries.SegmentEntry.{SegmentEntry}
use Rattle.omf_body.specs.declared.body.Place.{Place}
use Rattle.omf_body.specs.declared.body.Body.{Body}
use Rattle.omf_body.specs.Faults.{fault_of}
use Rattle.omf_body.specs.Fields.{◌>>=◌, read_byte, read_word, read_name, read_field}
use Rattle.omf_body.specs.Layouts.{Layout, SpellsRow, FaultsRow}
use Rattle.omf_body.specs.Entries.{segment_layout, common_layout, public_layout, external_layout, offset_layout, index_layout}
use Rattle.omf_body.specs.Bodies.{body_kind, are_distinct}

-- ---- what stands before a body's row

-- of a header: name, translator, version
abbrev pub read_header : List ℕ → Result ((List ℕ × ℕ × ℕ) × List ℕ) FieldFault
read_header bytes = do
  name ← read_name bytes
  translator ← read_byte name.1
  version ← read_byte translator.1
  Ok ((name.0, translator.0, version.0), version.1)

-- of content, and where a main program starts: segment and offset
abbrev pub read_place : List ℕ → Result (Place × List ℕ) FieldFault
read_place bytes = do
  segment ← read_byte bytes
  offset ← read_word segment.1
  Ok (record { segment = segment.0; offset = offset.0 }, offset.1)

-- of an end: main byte 0, or 1 and a start
abbrev pub read_end : List ℕ → Result (Option Place × List ℕ) FieldFault
read_end [] = Err field.BadBody
read_end (main ∷ rest) =
    if main == 0
    then Ok (None, rest)
    else (if main == 1 then (read_place rest >>= λ start. Ok (Some start.0, start.1)) else Err field.BadBody)

-- of intersegment references: segment and field
abbrev pub read_target : List ℕ → Result ((ℕ × Field) × List ℕ) FieldFault
read_target bytes = do
  segment ← read_byte bytes
  field ← read_field segment.1
  Ok ((segment.0, field.0), field.1)

-- ---- the first fault

-- of the fields at the front, if any bytes may follow
pub record FaultsHead {A : Type 0} (read : List ℕ → Result A FieldFault) (bytes : List ℕ) (fault : FieldFault) : Type 0 where
  pub here : read bytes ≡ Err fault

-- of what stands before the row, or of the row after it
abbrev pub FaultsHeaded : {H E : Type 0} → (List ℕ → Result (H × List ℕ) FieldFault) → Layout E → List ℕ → FieldFault → Type 0
FaultsHeaded {H} {E} read layout bytes fault =
    (read bytes ≡ Err fault) ⊎ ((head : H) × (rest : List ℕ) × (read bytes ≡ Ok (head, rest)) × FaultsRow layout rest fault)

-- A header lists an id twice: its bytes are in order apart from that. (Every fault after the name is BadBody, so their order
-- doesn't matter.)
pub record ListsTwice (bytes : List ℕ) : Type 0 where
  pub head : List ℕ × ℕ × ℕ
  pub rest : List ℕ
  pub entries : List SegmentEntry
  pub before : read_header bytes ≡ Ok (head, rest)
  pub spelled : SpellsRow segment_layout rest entries
  pub twice : are_distinct entries ≡ false

-- the first fault in the body of a record of this kind
abbrev pub FaultsBody : RecordKind → List ℕ → FieldFault → Type 0
FaultsBody kind.ModuleHeader bytes f = FaultsHeaded read_header segment_layout bytes f ⊎ (ListsTwice bytes × (f ≡ field.BadBody))
FaultsBody kind.ModuleEnd bytes f = FaultsHead read_end bytes f
FaultsBody kind.Content bytes f = FaultsHead read_place bytes f
FaultsBody kind.PublicDeclarations bytes f = FaultsHeaded read_byte public_layout bytes f
FaultsBody kind.ExternalNames bytes f = FaultsRow external_layout bytes f
FaultsBody kind.ExternalReferences bytes f = FaultsHeaded read_field index_layout bytes f
FaultsBody kind.Relocation bytes f = FaultsHeaded read_field offset_layout bytes f
FaultsBody kind.IntersegmentReferences bytes f = FaultsHeaded read_target offset_layout bytes f
FaultsBody kind.NamedCommons bytes f = FaultsRow common_layout bytes f
FaultsBody _ bytes f = ⊥

-- the first fault of a record: its type byte is that of no body, or its body has a fault
pub data FirstFault : ℕ → List ℕ → BodyFault → Type 0 where
  unknown : (type_byte : ℕ) (bytes : List ℕ) → ((body : Body) → kind_byte (body_kind body) ≢ type_byte) →
      FirstFault type_byte bytes (fault.UnknownKind type_byte)
  in_body : (kind : RecordKind) (bytes : List ℕ) (f : FieldFault) → FaultsBody kind bytes f →
      FirstFault (kind_byte kind) bytes (fault_of kind f)
