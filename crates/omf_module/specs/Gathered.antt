-- What the records of a module say: each kind's entries, of all records in order.
-- (8080 Object Module Formats, record formats: fixup records speak of the nearest content record before them.)
use Rattle.std.specs.Prelude.{ℕ, Bool, true, false, if◌then◌else◌, Option, Some, None, option_map, List, [], ◌∷◌, ◌++◌, map}
use Rattle.std.specs.List.{flat_map}
use Rattle.std.specs.Option.{option_to_list}
use Rattle.omf_body.specs.declared.body.Body.{Body}
use Rattle.omf_body.specs.declared.body.Body.TheVariants.{Content, PublicDeclarations, ExternalNames, ExternalReferences, Relocation, IntersegmentReferences}
use Rattle.omf_body.specs.declared.body.HeaderBody.{HeaderBody}
use Rattle.omf_body.specs.declared.body.EndBody.{EndBody}
use Rattle.omf_body.specs.Entries.{is_paged}
use Rattle.omf_model.specs.declared.segment.Segment.{Segment}
use Rattle.omf_model.specs.declared.symbols.Public.{Public}
use Rattle.omf_model.specs.declared.fixup.Fixup.{Fixup}
use Rattle.omf_model.specs.declared.fixup.Target.TheVariants as target
use Rattle.omf_module.specs.declared.module_file.PlacedBody.{PlacedBody}
use Rattle.omf_model.specs.Contents.{ContentValue}
use Rattle.omf_model.specs.Modules.{ModuleValue}
use Rattle.omf_module.specs.Records.{ModuleRecords, commons_of}

-- the segments of a header
abbrev pub segments_in : HeaderBody → List (ℕ × Segment)
segments_in b = map (λ e. (e.id, record { length = e.length; paged = is_paged e })) b.segments

-- the publics of a record
abbrev pub publics_in : Body → List Public
publics_in (PublicDeclarations b) = map (λ p. record { name = p.name; segment = b.segment; offset = p.offset }) b.publics
publics_in _ = []

-- the externals of a record
abbrev pub externals_in : Body → List (List ℕ)
externals_in (ExternalNames externals) = map (λ e. e.name) externals
externals_in _ = []

-- the fixups of a record, in a content of segment `own`
abbrev pub fixups_in : ℕ → Body → List Fixup
fixups_in own (ExternalReferences b) =
    map (λ r. record { offset = r.offset; field = b.field; target = target.External r.index }) b.references
fixups_in own (Relocation b) = map (λ r. record { offset = r.offset; field = b.field; target = target.Segment own }) b.references
fixups_in own (IntersegmentReferences b) =
    map (λ r. record { offset = r.offset; field = b.field; target = target.Segment b.segment }) b.references
fixups_in own _ = []

-- a content with more fixups
abbrev pub with_fixups : ContentValue → List Fixup → ContentValue
with_fixups c fixups = record c { fixups = c.fixups ++ fixups }

-- the nearest content after a record, with its fixups so far
abbrev pub content_after : Option ContentValue → Body → Option ContentValue
content_after nearest (Content b) = Some (record { segment = b.segment; offset = b.offset; bytes = b.bytes; fixups = [] })
content_after nearest body = option_map (λ c. with_fixups c (fixups_in c.segment body)) nearest

-- a record that begins a content
abbrev pub begins_content : Body → Bool
begins_content (Content b) = true
begins_content _ = false

-- the nearest content and those that follow, each with the fixups of the records up to the next one
abbrev pub contents_from : Option ContentValue → List PlacedBody → List ContentValue
contents_from nearest [] = option_to_list nearest
contents_from nearest (p ∷ ps) = (if begins_content p.body then option_to_list nearest else [])
    ++ contents_from (content_after nearest p.body) ps

-- the start of a main program
abbrev pub start_in : EndBody → Option (ℕ × ℕ)
start_in b = option_map (λ place. (place.segment, place.offset)) b.start

-- all that the records say, as the parts of a module
abbrev pub parts_of : ModuleRecords → ModuleValue
parts_of m = record {
  name = m.header.name;
  segments = segments_in m.header;
  commons = commons_of m.within;
  publics = flat_map (λ p. publics_in p.body) m.within;
  externals = flat_map (λ p. externals_in p.body) m.within;
  contents = contents_from None m.within;
  start = start_in m.end;
}
