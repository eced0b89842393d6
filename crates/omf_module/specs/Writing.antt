-- The canonical form in which a module is written, as the bodies of its records: header, commons, publics, externals, contents
-- with their fixups, end. Bytes that aren't read are written as 00.
-- (8080 Object Module Formats; the order of the records is this project's.)
use Rattle.std.specs.Prelude.{ℕ, ◌==◌, if◌then◌else◌, Option, option_map, List, [], ◌∷◌, ◌++◌, map}
use Rattle.std.specs.List.{flat_map}
use Rattle.omf_body.specs.declared.entries.SegmentEntry.{SegmentEntry}
use Rattle.omf_body.specs.declared.field.Field.{Field}
use Rattle.omf_body.specs.declared.body.Place.{Place}
use Rattle.omf_body.specs.declared.body.HeaderBody.{HeaderBody}
use Rattle.omf_body.specs.declared.body.EndBody.{EndBody}
use Rattle.omf_body.specs.declared.body.Body.{Body}
use Rattle.omf_body.specs.declared.body.Body.TheVariants.{ModuleHeader, ModuleEnd, Content, EndOfFile, PublicDeclarations, ExternalNames}
use Rattle.omf_body.specs.declared.body.Body.TheVariants.{ExternalReferences, Relocation, IntersegmentReferences, NamedCommons}
use Rattle.omf_body.specs.Bodies.{record_bytes}
use Rattle.omf_body.specs.Writing.{end_filling}
use Rattle.omf_model.specs.declared.segment.Segment.{Segment}
use Rattle.omf_model.specs.declared.symbols.Common.{Common}
use Rattle.omf_model.specs.declared.symbols.Public.{Public}
use Rattle.omf_model.specs.declared.fixup.Fixup.{Fixup}
use Rattle.omf_model.specs.declared.fixup.Target.{Target}
use Rattle.omf_model.specs.declared.fixup.Target.TheVariants as target
use Rattle.omf_model.specs.Contents.{ContentValue}
use Rattle.omf_model.specs.Modules.{ModuleValue}

-- alignment 2: a part starts at a multiple of 256; alignment 3: at any byte
abbrev pub segment_entry : ℕ × Segment → SegmentEntry
segment_entry e = record { id = e.0; length = e.1.length; alignment = if e.1.paged then 2 else 3 }

abbrev pub header_body : ModuleValue → HeaderBody
header_body m = record { name = m.name; translator = 0; version = 0; segments = map segment_entry m.segments }

-- one record for each common, public and external
abbrev pub common_body : Common → Body
common_body c = NamedCommons (record { id = c.id; name = c.name } ∷ [])

abbrev pub public_body : Public → Body
public_body p =
    PublicDeclarations (record { segment = p.segment; publics = record { offset = p.offset; name = p.name; unread = 0 } ∷ [] })

abbrev pub external_body : List ℕ → Body
external_body name = ExternalNames (record { name = name; unread = 0 } ∷ [])

-- a fixup in content of segment `own`: to that segment, to another one, or to an external
abbrev pub fixup_by : ℕ → Field → ℕ → Target → Body
fixup_by own field offset (target.Segment id) =
    if id == own then Relocation (record { field = field; references = record { offset = offset } ∷ [] })
    else IntersegmentReferences (record { segment = id; field = field; references = record { offset = offset } ∷ [] })
fixup_by own field offset (target.External index) =
    ExternalReferences (record { field = field; references = record { index = index; offset = offset } ∷ [] })

abbrev pub fixup_body : ℕ → Fixup → Body
fixup_body own f = fixup_by own f.field f.offset f.target

-- content, and one record for each of its fixups
abbrev pub content_body : ContentValue → Body
content_body c = Content (record { segment = c.segment; offset = c.offset; bytes = c.bytes })

abbrev pub content_bodies : ContentValue → List Body
content_bodies c = content_body c ∷ map (fixup_body c.segment) c.fixups

abbrev pub place_of : ℕ × ℕ → Place
place_of start = record { segment = start.0; offset = start.1 }

abbrev pub end_body : Option (ℕ × ℕ) → EndBody
end_body start = record { start = option_map place_of start; unread = end_filling (option_map place_of start) }

-- the records between header and end
abbrev pub bodies_within : ModuleValue → List Body
bodies_within m =
    map common_body m.commons
    ++ map public_body m.publics
    ++ map external_body m.externals
    ++ flat_map content_bodies m.contents

-- the records of a module
abbrev pub written_bodies : ModuleValue → List Body
written_bodies m = ModuleHeader (header_body m) ∷ bodies_within m ++ ModuleEnd (end_body m.start) ∷ []

-- their bytes, one record after another
unfoldable pub module_bytes : ModuleValue → List ℕ
module_bytes m = flat_map record_bytes (written_bodies m)

-- the bytes of an object file: modules one after another, and the record that ends the file
unfoldable pub file_bytes : List ModuleValue → List ℕ
file_bytes modules = flat_map module_bytes modules ++ record_bytes (EndOfFile [])
