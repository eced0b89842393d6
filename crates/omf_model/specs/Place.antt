-- Where the parts of modules lie: the place of a segment's offset in one of a list of modules that are linked and located
-- together. (ISIS-II User's Guide: LINK lays the parts of a segment one after another in module order, LOCATE gives each
-- segment a base.)
use Rattle.std.specs.Prelude.{ℕ, ◌+◌, ◌*◌, ◌/◌, ◌%◌, ◌==◌, Bool, ◌||◌, if◌then◌else◌, List, [], ◌∷◌, find, slice_index}
use Rattle.std.specs.Option.{option_map_or}
use Rattle.omf_core.specs.Name.{same_name}
use Rattle.omf_core.specs.SegmentId.{absolute_id, code_id, data_id, stack_id, memory_id, unnamed_common_id}
use Rattle.omf_model.specs.declared.symbols.Common.{Common}
use Rattle.omf_model.specs.Segments.{segment_in}
use Rattle.omf_model.specs.Modules.{ModuleValue}

-- a base for each segment, those of named commons by name; the stack's top; and a word for each name that no module
-- declares, 0 for one that isn't listed
pub record Bases : Type 0 where
  pub code : ℕ
  pub data_base : ℕ
  pub memory : ℕ
  pub common : ℕ
  pub commons : List (List ℕ × ℕ)
  pub top : ℕ
  pub words : List (List ℕ × ℕ)

-- the word beside a name, 0 if the name isn't listed
abbrev pub word_of : List (List ℕ × ℕ) → List ℕ → ℕ
word_of words name = option_map_or (λ w. w.1) (find (λ w. same_name w.0 name) words) 0

-- the name of a module's common of this id
abbrev pub common_name : List Common → ℕ → List ℕ
common_name commons id = option_map_or (λ c. c.name) (find (λ c. c.id == id) commons) []

-- the base of a module's segment: CODE, DATA, MEMORY, the unnamed common, or a named common
abbrev pub base_of : Bases → ModuleValue → ℕ → ℕ
base_of bases m id =
    if id == code_id then bases.code
    else if id == data_id then bases.data_base
    else if id == memory_id then bases.memory
    else if id == unnamed_common_id then bases.common
    else word_of bases.commons (common_name m.commons id)

-- a paged part starts at a multiple of 256
abbrev pub rounded : Bool → ℕ → ℕ
rounded paged n = if paged then (n + 255) / 256 * 256 else n

-- the parts of CODE, DATA and STACK lie one after another, those of MEMORY and of commons over one another
abbrev pub is_laid_out : ℕ → Bool
is_laid_out id = id == code_id || id == data_id || id == stack_id

-- the starts of the parts of a segment in module order, from the end of what lies before
abbrev pub starts_from : ℕ → ℕ → List ModuleValue → List ℕ
starts_from id before [] = []
starts_from id before (m ∷ ms) =
    let s = segment_in m.segments id in let start = rounded s.paged before in start ∷ starts_from id (start + s.length) ms

-- where the part of a module starts in its segment
abbrev pub part_start : List ModuleValue → (number id : ℕ) → ℕ
part_start modules number id = if is_laid_out id then slice_index (starts_from id 0 modules) number else 0

-- the place of an offset in a segment: absolute offsets stand as they are, all of STACK is spoken of from its top, and
-- everything else from where it begins
abbrev pub place_at : (begin top id offset : ℕ) → ℕ
place_at begin top id offset =
    if id == absolute_id then offset
    else if id == stack_id then (top + offset) % 65536
    else (begin + offset) % 65536

-- in a module a segment begins at its base and its part's start
abbrev pub place_in : Bases → List ModuleValue → (number : ℕ) → ModuleValue → (id offset : ℕ) → ℕ
place_in bases modules number m id offset = place_at (base_of bases m id + part_start modules number id) bases.top id offset
