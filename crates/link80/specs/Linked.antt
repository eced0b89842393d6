-- The module that LINK makes of modules: their parts laid one after another, their publics and contents moved with them,
-- their references resolved. (ISIS-II User's Guide, LINK; 8080 Object Module Formats. The ids of named commons and the order
-- of externals are this project's own.)
use Rattle.std.specs.Prelude.{ℕ, suc, ◌+◌, ◌-◌, ◌%◌, ◌==◌, not, ◌||◌, if◌then◌else◌, Option, Some, None, is_none, option_map, List, [], ◌∷◌, filter, filter_map, find, map, slice_get, max}
use Rattle.std.specs.List.{list_any, flat_map, enumerate_from}
use Rattle.std.specs.Option.{option_map_or}
use Rattle.omf_core.specs.Name.{same_name}
use Rattle.omf_core.specs.SegmentId.{absolute_id, code_id, data_id, stack_id, memory_id, unnamed_common_id}
use Rattle.omf_model.specs.declared.segment.Segment.{Segment}
use Rattle.omf_model.specs.declared.symbols.Common.{Common}
use Rattle.omf_model.specs.declared.symbols.Public.{Public}
use Rattle.omf_model.specs.declared.fixup.Fixup.{Fixup}
use Rattle.omf_model.specs.declared.fixup.Target.{Target}
use Rattle.omf_model.specs.declared.fixup.Target.TheVariants as target
use Rattle.omf_model.specs.Contents.{ContentValue}
use Rattle.omf_model.specs.Segments.{empty_segment, is_fixed_id, segment_in}
use Rattle.omf_model.specs.Modules.{ModuleValue, made_of}
use Rattle.omf_model.specs.declared.patching.Patch.{Patch}
use Rattle.link80.specs.declared.reference.Reference.{Reference}
use Rattle.omf_model.specs.Patches.{with_patches}
use Rattle.omf_model.specs.Place.{common_name, rounded, is_laid_out, part_start}
use Rattle.omf_model.specs.ImageByte.{name_at}

-- names without those that stood before
abbrev pub distinct : List (List ℕ) → List (List ℕ)
distinct [] = []
distinct (n ∷ ns) = n ∷ filter (λ o. not (same_name n o)) (distinct ns)

-- ---- named commons: one for each name, with the ids 6, 7, .. in order of first sight

abbrev pub names_of_commons : ModuleValue → List (List ℕ)
names_of_commons m = map (λ c. c.name) m.commons

abbrev pub common_names : List ModuleValue → List (List ℕ)
common_names modules = distinct (flat_map names_of_commons modules)

abbrev pub numbered_common : ℕ × List ℕ → Common
numbered_common e = record { id = e.0; name = e.1 }

abbrev pub linked_commons : List ModuleValue → List Common
linked_commons modules = map numbered_common (enumerate_from 6 (common_names modules))

abbrev pub id_of : List Common → List ℕ → ℕ
id_of commons name = option_map_or (λ c. c.id) (find (λ c. same_name c.name name) commons) 0

-- the id that a module's segment has in the linked module: a named common's is that of its name
abbrev pub linked_id : List ModuleValue → ModuleValue → ℕ → ℕ
linked_id modules m id = if is_fixed_id id then id else id_of (linked_commons modules) (common_name m.commons id)

-- ---- publics move with their parts; absolute offsets stand as they are, and STACK is spoken of from its top

abbrev pub moved : List ModuleValue → (number id offset : ℕ) → ℕ
moved modules number id offset =
    if id == absolute_id || id == stack_id then offset else (offset + part_start modules number id) % 65536

abbrev pub linked_public : List ModuleValue → ℕ × ModuleValue → Public → Public
linked_public modules m p =
    record { name = p.name; segment = linked_id modules m.1 p.segment; offset = moved modules m.0 p.segment p.offset }

abbrev pub linked_publics : List ModuleValue → List Public
linked_publics modules = flat_map (λ m. map (linked_public modules m) m.1.publics) (enumerate_from 0 modules)

-- the public that bears a name
abbrev pub public_of : List ModuleValue → List ℕ → Option Public
public_of modules name = find (λ p. same_name p.name name) (linked_publics modules)

-- ---- the names that no module declares, in order of first sight

abbrev pub unresolved : List ModuleValue → List (List ℕ)
unresolved modules = filter (λ name. is_none (public_of modules name)) (distinct (flat_map (λ m. m.externals) modules))

abbrev pub index_of : List (List ℕ) → List ℕ → ℕ
index_of [] name = 0
index_of (n ∷ ns) name = if same_name n name then 0 else suc (index_of ns name)

-- ---- references: the word that LINK adds to one, and what it is to from then on, unless to absolute bytes

abbrev pub to_place : (id offset : ℕ) → Reference
to_place id offset = record { word = offset; target = if id == absolute_id then None else Some (target.Segment id) }

abbrev pub to_public : List ModuleValue → List ℕ → Option Public → Reference
to_public modules name None = record { word = 0; target = Some (target.External (index_of (unresolved modules) name)) }
to_public modules name (Some p) = to_place p.segment p.offset

abbrev pub linked_reference : List ModuleValue → ℕ × ModuleValue → Target → Reference
linked_reference modules m (target.Segment id) = to_place (linked_id modules m.1 id) (moved modules m.0 id 0)
linked_reference modules m (target.External index) =
    to_public modules (name_at m.1.externals index) (public_of modules (name_at m.1.externals index))

-- ---- contents move with their parts, with the words added

abbrev pub link_patch : List ModuleValue → ℕ × ModuleValue → ContentValue → Fixup → Patch
link_patch modules m c f = record { at = f.offset - c.offset; field = f.field; word = (linked_reference modules m f.target).word }

abbrev pub fixup_to : ℕ → Fixup → Target → Fixup
fixup_to start f t = record { offset = f.offset + start; field = f.field; target = t }

abbrev pub linked_fixup : List ModuleValue → ℕ × ModuleValue → ContentValue → Fixup → Option Fixup
linked_fixup modules m c f =
    option_map (fixup_to (part_start modules m.0 c.segment) f) (linked_reference modules m f.target).target

abbrev pub linked_content : List ModuleValue → ℕ × ModuleValue → ContentValue → ContentValue
linked_content modules m c = record {
  segment = linked_id modules m.1 c.segment;
  offset = c.offset + part_start modules m.0 c.segment;
  bytes = with_patches (map (link_patch modules m c) c.fixups) c.bytes;
  fixups = filter_map (linked_fixup modules m c) c.fixups;
}

abbrev pub linked_contents : List ModuleValue → List ContentValue
linked_contents modules = flat_map (λ m. map (linked_content modules m) m.1.contents) (enumerate_from 0 modules)

-- ---- segments: the parts of CODE, DATA and STACK one after another; of MEMORY and of each common the longest part

-- the part that a module has of a linked segment
abbrev pub part_of : List Common → ModuleValue → ℕ → Segment
part_of commons m id =
    if is_fixed_id id then segment_in m.segments id
    else option_map_or (λ c. segment_in m.segments c.id)
    (find (λ c. same_name c.name (common_name commons id)) m.commons) empty_segment

-- the end of the last part
abbrev pub parts_end : ℕ → ℕ → List ModuleValue → ℕ
parts_end id before [] = before
parts_end id before (m ∷ ms) = let s = segment_in m.segments id in parts_end id (rounded s.paged before + s.length) ms

abbrev pub greatest : List ℕ → ℕ
greatest [] = 0
greatest (n ∷ ns) = max n (greatest ns)

abbrev pub linked_length : List ModuleValue → ℕ → ℕ
linked_length modules id =
    if is_laid_out id then parts_end id 0 modules
    else greatest (map (λ m. (part_of (linked_commons modules) m id).length) modules)

abbrev pub linked_segment : List ModuleValue → ℕ → Segment
linked_segment modules id = record {
  length = linked_length modules id;
  paged = list_any (λ m. (part_of (linked_commons modules) m id).paged) modules;
}

abbrev pub numbered_segments : List ModuleValue → List ℕ → List (ℕ × Segment)
numbered_segments modules ids = map (λ id. (id, linked_segment modules id)) ids

abbrev pub linked_ids : List ModuleValue → List ℕ
linked_ids modules = code_id ∷ data_id ∷ stack_id ∷ memory_id ∷ unnamed_common_id ∷ map (λ c. c.id) (linked_commons modules)

-- ---- the starts of all main programs

abbrev pub moved_start : List ModuleValue → ℕ × ModuleValue → ℕ × ℕ → ℕ × ℕ
moved_start modules m start = (linked_id modules m.1 start.0, moved modules m.0 start.0 start.1)

abbrev pub starts : List ModuleValue → List (ℕ × ℕ)
starts modules = filter_map (λ m. option_map (moved_start modules m) m.1.start) (enumerate_from 0 modules)

-- ---- the module

abbrev pub linked_parts : List ℕ → List ModuleValue → ModuleValue
linked_parts name modules = record {
  name = name;
  segments = numbered_segments modules (linked_ids modules);
  commons = linked_commons modules;
  publics = linked_publics modules;
  externals = unresolved modules;
  contents = linked_contents modules;
  start = slice_get (starts modules) 0;
}

abbrev pub linked : List ℕ → List ModuleValue → ModuleValue
linked name modules = made_of (linked_parts name modules)
