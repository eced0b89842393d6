-- What a module holds, line by line.
-- (8080 Object Module Formats: the header, named commons, public declarations, external names, content and end records. The form of
-- the lines is this project's own.)
use Rattle.std.specs.Prelude.{ℕ, ◌%◌, Option, Some, None, List, [], ◌∷◌, ◌++◌, length, codes}
use Rattle.std.specs.List.{flat_map}
use Rattle.text80.specs.Digits.{word_text}
use Rattle.omf_model.specs.declared.segment.Segment.{Segment}
use Rattle.omf_model.specs.declared.symbols.Common.{Common}
use Rattle.omf_model.specs.declared.symbols.Public.{Public}
use Rattle.omf_model.specs.Contents.{ContentValue}
use Rattle.omf_model.specs.Modules.{ModuleValue}
use Rattle.omf_text.specs.Places.{common_part, offset_words, place_words, part_words}

-- the line of a segment of the header: its word, its length, whether it is paged, and the name of a named common
abbrev pub segment_line : List Common → ℕ × Segment → List ℕ
segment_line commons entry = part_words entry.0 entry.1 ++ (common_part commons entry.0 ++ 10 ∷ [])

-- the line of a public name: its place, and the name
abbrev pub public_line : List Common → Public → List ℕ
public_line commons public = codes "PUBLIC " ++ (place_words commons public.segment public.offset ++ 32 ∷ (public.name ++ 10 ∷ []))

-- the line of an external name
abbrev pub external_line : List ℕ → List ℕ
external_line name = codes "NEEDS " ++ (name ++ 10 ∷ [])

-- the line of a content: its place and the number of its bytes, which are fewer than 65,536
abbrev pub content_line : List Common → ContentValue → List ℕ
content_line commons content =
    codes "CONTENT " ++ (offset_words content.segment content.offset
    ++ 32 ∷ (word_text (length content.bytes % 65536) ++ (common_part commons content.segment ++ 10 ∷ [])))

-- the line of the start, if there is one
abbrev pub start_line : List Common → Option (ℕ × ℕ) → List ℕ
start_line commons None = []
start_line commons (Some place) = codes "START " ++ (place_words commons place.0 place.1 ++ 10 ∷ [])

-- the line of a module's name
abbrev pub name_line : List ℕ → List ℕ
name_line name = codes "MODULE " ++ (name ++ 10 ∷ [])

-- the lines of its name, of its segments and of the names that it declares
abbrev pub declared_text : ModuleValue → List ℕ
declared_text m = name_line m.name ++ (flat_map (segment_line m.commons) m.segments ++ flat_map (public_line m.commons) m.publics)

-- the lines of the names that it needs, of its contents and of its start
abbrev pub defined_text : ModuleValue → List ℕ
defined_text m = flat_map external_line m.externals ++ (flat_map (content_line m.commons) m.contents ++ start_line m.commons m.start)

-- all lines of a module
abbrev pub module_text : ModuleValue → List ℕ
module_text m = declared_text m ++ defined_text m
