-- Where LINK lays the parts of modules in the linked one, and which modules need the names that no module declares, line by line.
-- (ISIS-II User's Guide, LINK: the link map with its segments, input modules and unresolved externals. The form of the lines is
-- this project's own.)
use Rattle.std.specs.Prelude.{◌≡◌, ℕ, Bool, if◌then◌else◌, None, List, [], ◌∷◌, ◌++◌, codes}
use Rattle.std.specs.List.{flat_map, list_any, enumerate_from}
use Rattle.text80.specs.Digits.{word_text}
use Rattle.omf_core.specs.Name.{same_name}
use Rattle.omf_core.specs.SegmentId.{segment_word}
use Rattle.omf_model.specs.declared.segment.Segment.{Segment}
use Rattle.omf_model.specs.declared.symbols.Common.{Common}
use Rattle.omf_model.specs.Segments.{is_used}
use Rattle.omf_model.specs.Modules.{ModuleValue}
use Rattle.omf_model.specs.Place.{part_start}
use Rattle.omf_text.specs.Places.{common_part}
use Rattle.link80.specs.declared.linking.Linked.{Linked}
use Rattle.link80.specs.Linked.{linked, linked_commons, linked_ids, part_of, unresolved}
use Rattle.link80.specs.LinkFault.{link_fault}
use Rattle.link80.specs.Selection.{modules_with}

-- ---- a link, as LINK answers it

-- the modules that were linked: the roots, and then those that were taken
abbrev pub modules_of : List ModuleValue → List (List ModuleValue) → Linked → List ModuleValue
modules_of roots libraries made = modules_with roots libraries made.taken.items

-- the linked module and the unresolved names are those of these modules, in which LINK finds no fault
pub record IsMade (roots : List ModuleValue) (libraries : List (List ModuleValue)) (made : Linked) : Type 0 where
  pub module_is : made.module ≡ linked made.module.name (modules_of roots libraries made)
  pub names_are : made.unresolved.items ≡ unresolved (modules_of roots libraries made)
  pub no_fault : link_fault (modules_of roots libraries made) ≡ None

-- ---- the parts

-- where a part starts in the linked segment, and its length
abbrev pub extent_of : (start length : ℕ) → List ℕ
extent_of start length = codes "PART " ++ (word_text start ++ 32 ∷ (word_text length ++ 32 ∷ []))

-- what it is a part of: the segment, a named common's name, and the module
abbrev pub owner_of : List Common → ℕ → List ℕ → List ℕ
owner_of commons id name = segment_word id ++ (common_part commons id ++ 32 ∷ (name ++ 10 ∷ []))

-- the line of a part
abbrev pub line_of : List Common → (id start : ℕ) → Segment → List ℕ → List ℕ
line_of commons id start part name = extent_of start part.length ++ owner_of commons id name

-- a part has a line if it has bytes or is paged
abbrev pub part_line : List Common → (id start : ℕ) → Segment → List ℕ → List ℕ
part_line commons id start part name = if is_used part then line_of commons id start part name else []

-- the line of the part that a module, with its number, has of a segment of the linked module
abbrev pub part_text : List ModuleValue → ℕ → ℕ × ModuleValue → List ℕ
part_text modules id m =
    part_line (linked_commons modules) id (part_start modules m.0 id) (part_of (linked_commons modules) m.1 id) m.1.name

-- the lines of the parts of a segment, in the order of the modules
abbrev pub segment_text : List ModuleValue → ℕ → List ℕ
segment_text modules id = flat_map (part_text modules id) (enumerate_from 0 modules)

-- the lines of all parts: those of CODE, DATA, STACK, MEMORY, the unnamed common, and the named commons in order of first sight
abbrev pub parts_text : List ModuleValue → List ℕ
parts_text modules = flat_map (segment_text modules) (linked_ids modules)

-- ---- unresolved names

-- the module has the name as external
abbrev pub needs_name : List ℕ → ModuleValue → Bool
needs_name name m = list_any (λ e. same_name e name) m.externals

-- the line of a name and a module that needs it
abbrev pub line_of_need : (name by : List ℕ) → List ℕ
line_of_need name by = (codes "UNRESOLVED " ++ name) ++ ((codes " BY " ++ by) ++ 10 ∷ [])

-- a module has a line for a name if it needs it
abbrev pub needing_line : List ℕ → ModuleValue → List ℕ
needing_line name m = if needs_name name m then line_of_need name m.name else []

-- the lines of the modules that need it, in their order
abbrev pub needing_text : List ModuleValue → List ℕ → List ℕ
needing_text modules name = flat_map (needing_line name) modules

-- those of all unresolved names, in order of first sight
abbrev pub unresolved_text : List ModuleValue → List ℕ
unresolved_text modules = flat_map (needing_text modules) (unresolved modules)
