-- The bytes that a body is written as, and how bytes spell one. (8080 Object Module Formats, record formats.)
use Rattle.std.specs.Prelude.{◌≡◌, ℕ, ◌==◌, Bool, true, not, ◌&&◌, Option, Some, None, List, [], ◌∷◌, ◌++◌, IsTrue}
use Rattle.std.specs.List.{flat_map, list_all, list_any}
use Rattle.omf_core.specs.declared.kind.RecordKind.{RecordKind}
use Rattle.omf_core.specs.declared.kind.RecordKind.TheVariants as kind
use Rattle.omf_core.specs.Kind.{kind_byte}
use Rattle.omf_core.specs.Name.{is_name, name_spelling}
use Rattle.omf_core.specs.Record.{spelling}
use Rattle.omf_body.specs.declared.entries.SegmentEntry.{SegmentEntry}
use Rattle.omf_body.specs.declared.body.Place.{Place}
use Rattle.omf_body.specs.declared.body.Body.{Body}
use Rattle.omf_body.specs.declared.body.Body.TheVariants.{ModuleHeader, ModuleEnd, Content, LineNumbers, EndOfFile, Ancestor, LocalSymbols, PublicDeclarations}
use Rattle.omf_body.specs.declared.body.Body.TheVariants.{ExternalNames, ExternalReferences, Relocation, IntersegmentReferences, NamedCommons}
use Rattle.omf_body.specs.Fields.{word_bytes, field_byte}
use Rattle.omf_body.specs.Entries.{segment_bytes, common_bytes, common_layout, public_bytes, public_layout, external_bytes, external_layout, offset_bytes, index_bytes}

-- segment and offset
abbrev pub place_bytes : Place → List ℕ
place_bytes place = place.segment ∷ word_bytes place.offset

-- main byte 0, or 1 and the place where a main program starts
abbrev pub start_bytes : Option Place → List ℕ
start_bytes None = 0 ∷ []
start_bytes (Some start) = 1 ∷ place_bytes start

abbrev pub body_bytes : Body → List ℕ
body_bytes (ModuleHeader b) = name_spelling b.name ++ b.translator ∷ b.version ∷ flat_map segment_bytes b.segments
body_bytes (ModuleEnd b) = start_bytes b.start ++ b.unread
body_bytes (Content b) = b.segment ∷ (word_bytes b.offset ++ b.bytes)
body_bytes (LineNumbers unread) = unread
body_bytes (EndOfFile unread) = unread
body_bytes (Ancestor unread) = unread
body_bytes (LocalSymbols unread) = unread
body_bytes (PublicDeclarations b) = b.segment ∷ flat_map public_bytes b.publics
body_bytes (ExternalNames externals) = flat_map external_bytes externals
body_bytes (ExternalReferences b) = field_byte b.field ∷ flat_map index_bytes b.references
body_bytes (Relocation b) = field_byte b.field ∷ flat_map offset_bytes b.references
body_bytes (IntersegmentReferences b) = b.segment ∷ field_byte b.field ∷ flat_map offset_bytes b.references
body_bytes (NamedCommons commons) = flat_map common_bytes commons

abbrev pub body_kind : Body → RecordKind
body_kind (ModuleHeader b) = kind.ModuleHeader
body_kind (ModuleEnd b) = kind.ModuleEnd
body_kind (Content b) = kind.Content
body_kind (LineNumbers unread) = kind.LineNumbers
body_kind (EndOfFile unread) = kind.EndOfFile
body_kind (Ancestor unread) = kind.Ancestor
body_kind (LocalSymbols unread) = kind.LocalSymbols
body_kind (PublicDeclarations b) = kind.PublicDeclarations
body_kind (ExternalNames externals) = kind.ExternalNames
body_kind (ExternalReferences b) = kind.ExternalReferences
body_kind (Relocation b) = kind.Relocation
body_kind (IntersegmentReferences b) = kind.IntersegmentReferences
body_kind (NamedCommons commons) = kind.NamedCommons

-- no id is listed twice
abbrev pub are_distinct : List SegmentEntry → Bool
are_distinct [] = true
are_distinct (e ∷ es) = not (list_any (λ d. d.id == e.id) es) && are_distinct es

-- names are names, the ids of commons are theirs, and a header lists no id twice
abbrev pub is_sound_body : Body → Bool
is_sound_body (ModuleHeader b) = is_name b.name && are_distinct b.segments
is_sound_body (PublicDeclarations b) = list_all public_layout.is_sound b.publics
is_sound_body (ExternalNames externals) = list_all external_layout.is_sound externals
is_sound_body (NamedCommons commons) = list_all common_layout.is_sound commons
is_sound_body _ = true

-- The bytes are the body of a record of this type byte, and it says this.
pub record Spells (type_byte : ℕ) (bytes : List ℕ) (body : Body) : Type 0 where
  pub of_kind : type_byte ≡ kind_byte (body_kind body)
  pub joined : bytes ≡ body_bytes body
  pub sound : IsTrue (is_sound_body body)

-- the bytes of the whole record
abbrev pub record_bytes : Body → List ℕ
record_bytes body = spelling (kind_byte (body_kind body)) (body_bytes body)
