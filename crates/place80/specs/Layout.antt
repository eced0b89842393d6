-- Where LOCATE places the segments of a program.
-- (ISIS-II User's Guide, LOCATE: the order of segments, their bases, and the sizes of STACK and MEMORY. The base of CODE
-- if no option gives one is this project's own.)
use Rattle.std.specs.Prelude.{ℕ, ◌+◌, ◌%◌, ◌==◌, if◌then◌else◌, Option, None, unwrap_or, List, [], ◌∷◌, ◌++◌, filter, find, map}
use Rattle.std.specs.List.{range_with_len}
use Rattle.omf_model.specs.declared.symbols.Common.{Common}
use Rattle.omf_model.specs.declared.segment.Segment.{Segment}
use Rattle.omf_model.specs.Segments.{code_id, data_id, stack_id, memory_id, unnamed_common_id, has_common_id, empty_segment}
use Rattle.omf_model.specs.Modules.{ModuleValue, segment_of}
use Rattle.omf_model.specs.Place.{Bases, place_at, rounded}
use Rattle.place80.specs.declared.options.Options.{Options}
use Rattle.place80.specs.declared.placed_segments.Placed.{Placed}

-- where CODE stands without an option
abbrev pub default_base : ℕ
default_base = 0x3000

-- the segments in the order of their places: CODE, STACK, the named commons by id, the unnamed common, DATA, MEMORY
unfoldable pub common_numbers : List ℕ
common_numbers = range_with_len 6 249

abbrev pub common_ids : List Common → List ℕ
common_ids commons = filter (has_common_id commons) common_numbers

abbrev pub order_of : List Common → List ℕ
order_of commons = code_id ∷ stack_id ∷ (common_ids commons ++ unnamed_common_id ∷ data_id ∷ memory_id ∷ [])

-- the base that an option gives a segment
abbrev pub given_base : Options → ℕ → Option ℕ
given_base options id =
    if id == code_id then options.code
    else if id == stack_id then options.stack
    else if id == unnamed_common_id then options.common
    else if id == data_id then options.data_base
    else if id == memory_id then options.memory
    else None

-- the length that an option gives STACK or MEMORY in place of their own
abbrev pub given_length : Options → ℕ → Option ℕ
given_length options id = if id == stack_id then options.stack_size else if id == memory_id then options.memory_size else None

-- the module's segment of an id in that order
abbrev pub own_segment : ModuleValue → ℕ → Segment
own_segment m id = unwrap_or (segment_of m id) empty_segment

-- The segment of this id after one that ends at `before`: at the base that is given, or else there, at the next multiple of
-- 256 if it is paged.
abbrev pub placed_after : Options → ModuleValue → (before id : ℕ) → Placed
placed_after options m before id = record {
  id = id;
  base = unwrap_or (given_base options id) (rounded (own_segment m id).paged before);
  length = unwrap_or (given_length options id) (own_segment m id).length;
}

abbrev pub placed_from : Options → ModuleValue → ℕ → List ℕ → List Placed
placed_from options m before [] = []
placed_from options m before (id ∷ ids) =
    let p = placed_after options m before id in p ∷ placed_from options m (p.base + p.length) ids

-- all segments of the program, in their order
unfoldable pub layout_of : Options → ModuleValue → List Placed
layout_of options m = placed_from options m default_base (order_of m.commons)

-- the placed segment of an id
abbrev pub nowhere : ℕ → Placed
nowhere id = record { id = id; base = 0; length = 0 }

abbrev pub placed_in : List Placed → ℕ → Placed
placed_in segments id = unwrap_or (find (λ p. p.id == id) segments) (nowhere id)

abbrev pub base_in : List Placed → ℕ → ℕ
base_in segments id = (placed_in segments id).base

-- the stack's top, as a word
abbrev pub top_in : List Placed → ℕ
top_in segments = let stack = placed_in segments stack_id in (stack.base + stack.length) % 65536

-- the place of an offset in a segment of the one module that is located
abbrev pub place_among : List Placed → (id offset : ℕ) → ℕ
place_among segments id = place_at (base_in segments id) (top_in segments) id

-- the bases that these places give, those of named commons by name; no name stands for a word
abbrev pub bases_of : List Common → List Placed → Bases
bases_of commons segments = record {
  code = base_in segments code_id;
  data_base = base_in segments data_id;
  memory = base_in segments memory_id;
  common = base_in segments unnamed_common_id;
  commons = map (λ c. (c.name, base_in segments c.id)) commons;
  top = top_in segments;
  words = [];
}

-- the bases that a program's own places give
abbrev pub program_bases : Options → ModuleValue → Bases
program_bases options m = bases_of m.commons (layout_of options m)
