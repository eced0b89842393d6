-- Words for the private functions that list parts.
use Rattle.std.specs.Prelude.{ℕ, ◌+◌, List, [], ◌∷◌, ◌++◌, find}
use Rattle.std.specs.List.{flat_map}
use Rattle.std.specs.Option.{option_map_or}
use Rattle.omf_core.specs.Name.{same_name}
use Rattle.omf_model.specs.declared.segment.Segment.{Segment}
use Rattle.omf_model.specs.declared.symbols.Common.{Common}
use Rattle.omf_model.specs.Segments.{empty_segment, segment_in}
use Rattle.omf_model.specs.Modules.{ModuleValue}
use Rattle.omf_model.specs.Place.{rounded}
use Rattle.link80.specs.Linked.{part_of}
use Rattle.link80_text.specs.Parts.{part_line}

-- the part of the common with a name
abbrev pub named_part : List (ℕ × Segment) → List Common → List ℕ → Segment
named_part segments commons name =
    option_map_or (λ c. segment_in segments c.id) (find (λ c. same_name c.name name) commons) empty_segment

-- the lines of parts that lie one after another, from the end of what lies before
abbrev pub laid_text : List Common → (id before : ℕ) → List ModuleValue → List ℕ
laid_text commons id before [] = []
laid_text commons id before (m ∷ ms) =
    part_line commons id (rounded (segment_in m.segments id).paged before) (segment_in m.segments id) m.name
    ++ laid_text commons id (rounded (segment_in m.segments id).paged before + (segment_in m.segments id).length) ms

-- the lines of parts that lie over one another
abbrev pub joined_text : List Common → ℕ → List ModuleValue → List ℕ
joined_text commons id modules = flat_map (λ m. part_line commons id 0 (part_of commons m id) m.name) modules
