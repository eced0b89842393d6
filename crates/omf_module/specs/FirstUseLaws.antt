-- The fault of use of a module's records, in other words: of all that they use, in order, the first that isn't there. (It follows
-- from the definitions.)
use Rattle.std.specs.Prelude.{◌≡◌, not, if◌then◌else◌, ℕ, Option, None, Some, option_map, List, [], ◌∷◌, ◌++◌, filter, filter_map, map, slice_get}
use Rattle.std.specs.List.{flat_map, last_or}
use Rattle.std.specs.Option.{option_to_list}
use Rattle.omf_body.specs.declared.body.Body.{Body}
use Rattle.omf_module.specs.declared.fault.Cause.{Cause}
use Rattle.omf_module.specs.declared.fault.Cause.TheVariants.{SegmentUnknown, FixupBeforeContent}
use Rattle.omf_module.specs.declared.fault.ModuleFault.{ModuleFault}
use Rattle.omf_module.specs.declared.module_file.PlacedBody.{PlacedBody}
use Rattle.omf_model.specs.declared.fixup.Fixup.{Fixup}
use Rattle.omf_model.specs.Contents.{ContentValue}
use Rattle.omf_model.specs.Modules.{ModuleValue}
use Rattle.omf_model.specs.Segments.{has_segment}
use Rattle.omf_module.specs.Records.{ModuleRecords}
use Rattle.omf_module.specs.Gathered.{fixups_in, with_fixups, parts_of}
use Rattle.omf_module.specs.GatheredLaws.{contents_begun}
use Rattle.omf_module.specs.Uses.{ids_in, place_fault, fixup_fault, is_reference, bodies_fault, fault_by, use_fault}

-- each of a list, with those before it
abbrev pub with_earlier : {A : Type 0} → List A → List A → List (List A × A)
with_earlier before [] = []
with_earlier before (x ∷ xs) = (before, x) ∷ with_earlier (before ++ x ∷ []) xs

-- those of the segments that aren't there
abbrev pub unknown_segments : ModuleValue → List ℕ → List Cause
unknown_segments m ids = map SegmentUnknown (filter (λ id. not (has_segment m.commons id)) ids)

-- the content that fixups speak of if these records stand before them: the last that they begin, with its fixups so far
abbrev pub nearest_content : List PlacedBody → Option ContentValue
nearest_content before = last_or None (contents_begun before)

-- what is wrong with a fixup in a content, of which these fixups come before it
abbrev pub cause_of_fixup : ModuleValue → ContentValue → List Fixup × Fixup → Option Cause
cause_of_fixup m c e = fixup_fault m (with_fixups c e.0) e.1

-- what is wrong with the fixups of a record, in order: each is seen in the nearest content
abbrev pub causes_of_fixups : ModuleValue → Option ContentValue → Body → List Cause
causes_of_fixups m None body = if is_reference body then FixupBeforeContent ∷ [] else []
causes_of_fixups m (Some c) body = filter_map (cause_of_fixup m c) (with_earlier [] (fixups_in c.segment body))

-- what a record uses and isn't there, in order: a segment that it speaks of, the place of its content, its fixups
abbrev pub causes_in : ModuleValue → Option ContentValue → Body → List Cause
causes_in m nearest body =
    unknown_segments m (ids_in body) ++ (option_to_list (place_fault m body) ++ causes_of_fixups m nearest body)

abbrev pub faults_at : ℕ → List Cause → List ModuleFault
faults_at at causes = map (fault_by at) causes

-- the faults of a record, with those before it
abbrev pub faults_in : ModuleValue → List PlacedBody × PlacedBody → List ModuleFault
faults_in m e = faults_at e.1.at (causes_in m (nearest_content e.0) e.1.body)

abbrev pub bodies_faults : ModuleValue → List PlacedBody → List ModuleFault
bodies_faults m ps = flat_map (faults_in m) (with_earlier [] ps)

-- all uses of what isn't there, in the order of the module's records and of their entries: header, those within, end
abbrev pub use_faults : ModuleRecords → List ModuleFault
use_faults r =
    let m = parts_of r in
    faults_at r.at (unknown_segments m (map (λ e. e.id) r.header.segments))
    ++ (bodies_faults m r.within
    ++ faults_at r.end_at (unknown_segments m (option_to_list (option_map (λ place. place.segment) r.end.start))))

-- The fault of use of records, and of a module, is the first of them.
abbrev pub BodiesFaultIsTheFirst : Type 0
BodiesFaultIsTheFirst = (m : ModuleValue) (ps : List PlacedBody) → bodies_fault m None ps ≡ slice_get (bodies_faults m ps) 0

abbrev pub UseFaultIsTheFirst : Type 0
UseFaultIsTheFirst = (r : ModuleRecords) → use_fault r ≡ slice_get (use_faults r) 0
