-- What a module is.
-- (8080 Object Module Formats, module.)
use Rattle.std.specs.Prelude.{ℕ, if◌then◌else◌, Option, Some, None, List}
use Rattle.omf_model.specs.declared.segment.Segment.{Segment}
use Rattle.omf_model.specs.declared.symbols.Common.{Common}
use Rattle.omf_model.specs.declared.symbols.Public.{Public}
use Rattle.omf_model.specs.Contents.{ContentValue}
use Rattle.omf_model.specs.Segments.{segment_in, has_segment, canonical_segments}

pub record ModuleValue : Type 0 where
  pub name : List ℕ
  pub segments : List (ℕ × Segment)
  pub commons : List Common
  pub publics : List Public
  pub externals : List (List ℕ)
  pub contents : List ContentValue
  pub start : Option (ℕ × ℕ)

-- the module of these parts: they are kept as they are, but for the segments, which have one form
abbrev pub made_of : ModuleValue → ModuleValue
made_of p = record p { segments = canonical_segments p.segments p.commons }

-- the segment of an id, if the module has one
abbrev pub segment_of : ModuleValue → ℕ → Option Segment
segment_of m id = if has_segment m.commons id then Some (segment_in m.segments id) else None
