-- Words for the segments and commons of a module, and for places in them. (Their form is this project's own.)
use Rattle.std.specs.Prelude.{ℕ, ◌==◌, Bool, if◌then◌else◌, List, [], ◌∷◌, ◌++◌, codes, find}
use Rattle.std.specs.Option.{option_map_or}
use Rattle.text80.specs.Digits.{word_text}
use Rattle.omf_core.specs.SegmentId.{segment_word}
use Rattle.omf_model.specs.declared.segment.Segment.{Segment}
use Rattle.omf_model.specs.declared.symbols.Common.{Common}

-- a blank and the name of the common of this id, if it has one
abbrev pub common_part : List Common → ℕ → List ℕ
common_part commons id = option_map_or (λ c. 32 ∷ c.name) (find (λ c. c.id == id) commons) []

-- a segment and an offset in it
abbrev pub offset_words : (id offset : ℕ) → List ℕ
offset_words id offset = segment_word id ++ 32 ∷ word_text offset

-- the same, and a named common's name
abbrev pub place_words : List Common → (id offset : ℕ) → List ℕ
place_words commons id offset = segment_word id ++ 32 ∷ (word_text offset ++ common_part commons id)

abbrev pub paged_part : Bool → List ℕ
paged_part paged = if paged then codes " PAGED" else []

-- a segment, its length or that of a part of it, and whether that is paged
abbrev pub part_words : (id : ℕ) → Segment → List ℕ
part_words id part = segment_word id ++ 32 ∷ (word_text part.length ++ paged_part part.paged)
