-- What holds of all modules that are made of parts.
-- (8080 Object Module Formats: a module has the segments that its header lists; the one form of the list is this project's.)
use Rattle.std.specs.Prelude.{◌≡◌, ◌≤◌, ℕ, Some}
use Rattle.omf_model.specs.Segments.{empty_segment}
use Rattle.omf_model.specs.Modules.{ModuleValue, made_of, segment_of}

-- A module that is made of parts has their segments, in whatever order they were listed, but for absolute bytes: these
-- have no length.
abbrev pub SegmentsAreKept : Type 0
SegmentsAreKept = (p : ModuleValue) (id : ℕ) → 1 ≤ id → id ≤ 255 → segment_of (made_of p) id ≡ segment_of p id

abbrev pub AbsoluteIsEmpty : Type 0
AbsoluteIsEmpty = (p : ModuleValue) → segment_of (made_of p) 0 ≡ Some empty_segment
