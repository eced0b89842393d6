-- What the records of a module use, and the first use of what isn't there: all records are gone through again when every
-- common, segment and external is known. (specs/UseLaws.antt says by the rules of modules when there is none.)
-- (8080 Object Module Formats: a record may use what a later one declares. The faults and their order are this project's own.)
use Rattle.std.specs.Prelude.{ℕ, ◌+◌, ◌==◌, Bool, true, false, not, nat_lt, if◌then◌else◌, Option, Some, None, option_map, List, [], ◌∷◌, length, map}
use Rattle.std.specs.Option.{option_or, option_to_list}
use Rattle.omf_core.specs.SegmentId.{stack_id}
use Rattle.omf_body.specs.declared.body.Body.{Body}
use Rattle.omf_body.specs.declared.body.Body.TheVariants.{Content, PublicDeclarations, ExternalReferences, Relocation, IntersegmentReferences}
use Rattle.omf_module.specs.declared.fault.Cause.{Cause}
use Rattle.omf_module.specs.declared.fault.Cause.TheVariants.{SegmentUnknown, OffsetOutside, FixupBeforeContent, FixupOutside, FixupTwice, IndexUnknown}
use Rattle.omf_module.specs.declared.fault.ModuleFault.{ModuleFault}
use Rattle.omf_model.specs.declared.fixup.Fixup.{Fixup}
use Rattle.omf_model.specs.declared.fixup.Target.{Target}
use Rattle.omf_model.specs.declared.fixup.Target.TheVariants as target
use Rattle.omf_module.specs.declared.module_file.PlacedBody.{PlacedBody}
use Rattle.omf_model.specs.Contents.{ContentValue, is_inside, shares_a_byte}
use Rattle.omf_model.specs.Modules.{ModuleValue}
use Rattle.omf_model.specs.Rules.{end_of}
use Rattle.omf_model.specs.Segments.{has_segment}
use Rattle.omf_module.specs.Records.{ModuleRecords}
use Rattle.omf_module.specs.Gathered.{fixups_in, with_fixups, content_after, parts_of}

-- the first of these ids of which the module has no segment
abbrev pub unknown_id : ModuleValue → List ℕ → Option Cause
unknown_id m [] = None
unknown_id m (id ∷ ids) = if has_segment m.commons id then unknown_id m ids else Some (SegmentUnknown id)

-- the segments that a record speaks of
abbrev pub ids_in : Body → List ℕ
ids_in (Content b) = b.segment ∷ []
ids_in (PublicDeclarations b) = b.segment ∷ []
ids_in (IntersegmentReferences b) = b.segment ∷ []
ids_in _ = []

-- content that stands in STACK, or passes the end of its segment
abbrev pub place_fault : ModuleValue → Body → Option Cause
place_fault m (Content b) =
    if b.segment == stack_id then Some (SegmentUnknown stack_id)
    else (if nat_lt (end_of m.segments b.segment) (b.offset + length b.bytes) then Some OffsetOutside else None)
place_fault m _ = None

-- an external that isn't there
abbrev pub lacks_external : ModuleValue → Target → Bool
lacks_external m (target.Segment id) = false
lacks_external m (target.External index) = not (nat_lt index (length m.externals))

-- a fixup in a content that has others
abbrev pub fixup_fault : ModuleValue → ContentValue → Fixup → Option Cause
fixup_fault m c f =
    if not (is_inside c.offset (length c.bytes) f) then Some FixupOutside
    else (if shares_a_byte c.fixups f then Some FixupTwice
    else (if lacks_external m f.target then Some IndexUnknown else None))

-- the first fault of fixups in a content
abbrev pub fixups_fault : ModuleValue → ContentValue → List Fixup → Option Cause
fixups_fault m c [] = None
fixups_fault m c (f ∷ fs) = option_or (fixup_fault m c f) (fixups_fault m (with_fixups c (f ∷ [])) fs)

abbrev pub is_reference : Body → Bool
is_reference (ExternalReferences b) = true
is_reference (Relocation b) = true
is_reference (IntersegmentReferences b) = true
is_reference _ = false

-- fixups need a content before them
abbrev pub reference_fault : ModuleValue → Option ContentValue → Body → Option Cause
reference_fault m None body = if is_reference body then Some FixupBeforeContent else None
reference_fault m (Some c) body = fixups_fault m c (fixups_in c.segment body)

-- the first fault of a record
abbrev pub body_fault : ModuleValue → Option ContentValue → Body → Option Cause
body_fault m nearest body =
    option_or (unknown_id m (ids_in body)) (option_or (place_fault m body) (reference_fault m nearest body))

abbrev pub fault_by : ℕ → Cause → ModuleFault
fault_by at cause = record { at = at; cause = cause }

-- the first fault of records
abbrev pub bodies_fault : ModuleValue → Option ContentValue → List PlacedBody → Option ModuleFault
bodies_fault m nearest [] = None
bodies_fault m nearest (p ∷ ps) =
    option_or (option_map (fault_by p.at) (body_fault m nearest p.body)) (bodies_fault m (content_after nearest p.body) ps)

-- the first fault of all records of a module: header, those within, end
abbrev pub header_fault : ModuleValue → ModuleRecords → Option ModuleFault
header_fault m r = option_map (fault_by r.at) (unknown_id m (map (λ e. e.id) r.header.segments))

abbrev pub end_fault : ModuleValue → ModuleRecords → Option ModuleFault
end_fault m r = option_map (fault_by r.end_at) (unknown_id m (option_to_list (option_map (λ place. place.segment) r.end.start)))

abbrev pub use_fault : ModuleRecords → Option ModuleFault
use_fault r = let m = parts_of r in option_or (header_fault m r) (option_or (bodies_fault m None r.within) (end_fault m r))
