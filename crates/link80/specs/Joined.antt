-- How the parts that modules have of one segment, lying over one another, become one: the longest, paged if one is.
-- (ISIS-II User's Guide, LINK.)
use Rattle.std.specs.Prelude.{ℕ, ◌||◌, Option, Some, None, List, [], ◌∷◌, map, max, slice_index_or, slice_set}
use Rattle.omf_model.specs.declared.segment.Segment.{Segment}
use Rattle.omf_model.specs.Segments.{empty_segment, segment_in}
use Rattle.omf_model.specs.Modules.{ModuleValue}
use Rattle.link80.specs.FirstSight.{number_in}

abbrev pub joined_parts : Segment → Segment → Segment
joined_parts a b = record { length = max a.length b.length; paged = a.paged || b.paged }

-- a segment with the parts of modules joined to it
abbrev pub with_parts : (ModuleValue → Segment) → Segment → List ModuleValue → Segment
with_parts part s [] = s
with_parts part s (m ∷ ms) = with_parts part (joined_parts s (part m)) ms

-- the parts that a module has of named commons
abbrev pub parts_of_commons : ModuleValue → List (List ℕ × Segment)
parts_of_commons m = map (λ c. (c.name, segment_in m.segments c.id)) m.commons

-- segments by number, with a part joined to that of a number, if it has one
abbrev pub with_part_at : List Segment → Option ℕ → Segment → List Segment
with_part_at segments None part = segments
with_part_at segments (Some k) part = slice_set segments k (joined_parts (slice_index_or segments k empty_segment) part)

-- and with each of some named parts joined to that of its name's number
abbrev pub with_named_parts : List (List ℕ) → List Segment → List (List ℕ × Segment) → List Segment
with_named_parts names segments [] = segments
with_named_parts names segments (p ∷ ps) = with_named_parts names (with_part_at segments (number_in names p.0) p.1) ps
