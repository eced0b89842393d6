-- The segments of a module.
-- (8080 Object Module Formats: segment ids, module header and named common definitions records.)
use Rattle.std.specs.Prelude.{ℕ, ◌==◌, Bool, false, ◌||◌, nat_lt, nat_le, if◌then◌else◌, Option, Some, None, List}
use Rattle.std.specs.List.{list_any, find, filter_map, range_with_len}
use Rattle.std.specs.Option.{option_map_or}
pub use Rattle.omf_core.specs.SegmentId.{absolute_id, code_id, data_id, stack_id, memory_id, unnamed_common_id}
use Rattle.omf_model.specs.declared.segment.Segment.{Segment}
use Rattle.omf_model.specs.declared.symbols.Common.{Common}

-- a segment that isn't listed has no bytes and starts anywhere
abbrev pub empty_segment : Segment
empty_segment = record { length = 0; paged = false }

-- absolute, CODE, DATA, STACK, MEMORY and the unnamed common: every module has them
abbrev pub is_fixed_id : ℕ → Bool
is_fixed_id id = nat_le id memory_id || id == unnamed_common_id

-- ---- the segments that a module lists

-- one of the commons has this id
abbrev pub has_common_id : List Common → ℕ → Bool
has_common_id commons id = list_any (λ c. c.id == id) commons

-- the id is one of a segment that the module has
abbrev pub has_segment : List Common → ℕ → Bool
has_segment commons id = is_fixed_id id || has_common_id commons id

-- the listed segment of this id
abbrev pub segment_in : List (ℕ × Segment) → ℕ → Segment
segment_in entries id = option_map_or (λ e. e.1) (find (λ e. e.0 == id) entries) empty_segment

-- it has bytes, or is paged
abbrev pub is_used : Segment → Bool
is_used s = nat_lt 0 s.length || s.paged

-- The canonical form of the segments of a module: in ascending order of ids, every named common,
-- and of the others those that have bytes or are paged. Id 0 is never listed.
abbrev pub entry_for : List (ℕ × Segment) → List Common → ℕ → Option (ℕ × Segment)
entry_for entries commons id =
    if has_common_id commons id || is_used (segment_in entries id) then Some (id, segment_in entries id) else None

unfoldable pub entries_for : List (ℕ × Segment) → List Common → List ℕ → List (ℕ × Segment)
entries_for entries commons ids = filter_map (entry_for entries commons) ids

-- the ids that are listed, if they are
unfoldable pub listed_ids : List ℕ
listed_ids = range_with_len 1 255

abbrev pub canonical_segments : List (ℕ × Segment) → List Common → List (ℕ × Segment)
canonical_segments entries commons = entries_for entries commons listed_ids
