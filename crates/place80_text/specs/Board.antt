-- Whether a program's bytes have memory on a board, whose ROM and RAM are ranges of addresses.
-- (ISIS-II User's Guide, LOCATE, places segments at any address. That a board's memory may be named is this project's own.)
use Rattle.std.specs.Prelude.{◌≡◌, ℕ, ◌%◌, ◌==◌, Bool, true, ◌&&◌, ◌||◌, not, if◌then◌else◌, Option, None, option_map, List, [], ◌∷◌, ◌++◌, codes, filter, find}
use Rattle.std.specs.List.{AllByRecursion, flat_map, range_with_len}
use Rattle.std.specs.Option.{option_or}
use Rattle.text80.specs.Digits.{word_text}
use Rattle.image80.specs.declared.range.Range.{Range}
use Rattle.image80.specs.Range.{in_ranges}
use Rattle.omf_model.specs.declared.symbols.Common.{Common}
use Rattle.omf_model.specs.Segments.{absolute_id, code_id}
use Rattle.omf_model.specs.Modules.{ModuleValue}
use Rattle.place80.specs.declared.placed_segments.Placed.{Placed}
use Rattle.place80.specs.PlaceFault.{absolute_places, is_in_placed}
use Rattle.place80.specs.Restart.{restart_place}
use Rattle.place80_text.specs.Map.{segment_line}
use Rattle.place80_text.specs.declared.board.Unmapped.{Unmapped}

-- a segment of this id has memory at an address: RAM, or ROM too if it is CODE or absolute content
abbrev pub is_mapped : (rom ram : List Range) → (id address : ℕ) → Bool
is_mapped rom ram id address = in_ranges ram address || ((id == code_id || id == absolute_id) && in_ranges rom address)

-- the first of `count` addresses from `first` on at which it has none
abbrev pub unmapped_from : (rom ram : List Range) → (id first count : ℕ) → Option Unmapped
unmapped_from rom ram id first count =
    option_map (λ address. record { segment = id; address = address })
    (find (λ address. not (is_mapped rom ram id address)) (range_with_len first count))

-- that of the first place that has one
abbrev pub first_unmapped : (rom ram : List Range) → List Placed → Option Unmapped
first_unmapped rom ram [] = None
first_unmapped rom ram (p ∷ ps) = option_or (unmapped_from rom ram p.id p.base p.length) (first_unmapped rom ram ps)

-- the place of the jump at address 0, if a program has a restart
abbrev pub restart_places : (restart : Bool) → List Placed
restart_places restart = if restart then restart_place ∷ [] else []

-- the places of a program's bytes: its segments, in their order, its absolute contents, and its restart
abbrev pub places_of : ModuleValue → List Placed → (restart : Bool) → List Placed
places_of m segments restart = segments ++ (absolute_places m.contents ++ restart_places restart)

-- each address of each place has memory
abbrev pub AreMapped : (rom ram : List Range) → List Placed → Type 0
AreMapped rom ram places = AllByRecursion (λ p. (address : ℕ) → is_in_placed p address ≡ true → is_mapped rom ram p.id address ≡ true) places

-- ---- in words

-- of which ranges an address isn't one
abbrev pub lack_words : (id : ℕ) → List ℕ
lack_words id = if id == code_id || id == absolute_id then codes " is in no --rom-range or --ram-range\n" else codes " is in no --ram-range\n"

-- the line of the segment, if it is one, and the address
abbrev pub unmapped_text : List Common → List Placed → Unmapped → List ℕ
unmapped_text commons segments u =
    flat_map (segment_line commons) (filter (λ p. p.id == u.segment) segments) ++ (word_text (u.address % 65536) ++ lack_words u.segment)
