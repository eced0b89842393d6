-- The printed map of a program: its segments and its public names, at the addresses where LOCATE puts them.
-- (ISIS-II User's Guide, LOCATE: the memory map and the symbol table that it lists. The form of the lines is this project's own.)
use Rattle.std.specs.Prelude.{◌≡◌, ℕ, ◌%◌, ◌==◌, List, [], ◌∷◌, ◌++◌, filter}
use Rattle.std.specs.List.{flat_map}
use Rattle.std.specs.List.Sorted.{IsNonDecreasingBy}
use Rattle.text80.specs.Digits.{word_text}
use Rattle.omf_core.specs.SegmentId.{segment_word}
use Rattle.omf_model.specs.declared.symbols.Common.{Common}
use Rattle.omf_model.specs.declared.symbols.Public.{Public}
use Rattle.omf_model.specs.Modules.{ModuleValue}
use Rattle.omf_text.specs.Places.{common_part}
use Rattle.place80.specs.declared.placed_segments.Placed.{Placed}
use Rattle.place80.specs.Layout.{place_among}

-- the line of a segment: its word, its first address, its length, and the name of a named common; an empty one at the end of
-- memory is shown at 0000
abbrev pub segment_line : List Common → Placed → List ℕ
segment_line commons p =
    segment_word p.id ++ 32 ∷ (word_text (p.base % 65536) ++ 32 ∷ (word_text p.length ++ (common_part commons p.id ++ 10 ∷ [])))

-- the address of a public name
abbrev pub address_of : List Placed → Public → ℕ
address_of segments public = place_among segments public.segment public.offset

-- the line of a public name: its address, and the name
abbrev pub public_line : List Placed → Public → List ℕ
public_line segments public = word_text (address_of segments public) ++ 32 ∷ (public.name ++ 10 ∷ [])

-- the same names by address: those that stand at an address are the same, in the same order
pub record IsByAddress (segments : List Placed) (publics listed : List Public) : Type 0 where
  pub ascending : IsNonDecreasingBy (address_of segments) listed
  pub each : (address : ℕ)
      → filter (λ p. address_of segments p == address) listed ≡ filter (λ p. address_of segments p == address) publics

-- a text with the lines of the public names, by address, behind it
abbrev pub PrintsPublics : List Placed → List Public → (before after : List ℕ) → Type 0
PrintsPublics segments publics before after =
    (listed : List Public) × IsByAddress segments publics listed × (after ≡ before ++ flat_map (public_line segments) listed)

-- the map of a program with its segments at these places: the lines of the segments, and then those of the public names
abbrev pub IsMap : List Placed → ModuleValue → List ℕ → Type 0
IsMap segments m text = PrintsPublics segments m.publics (flat_map (segment_line m.commons) segments) text
