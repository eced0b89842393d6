-- Why a program can't be located: each cause as a test, and the order in which they are reported.
-- (ISIS-II User's Guide, LOCATE: unresolved references, overlapping and out of bounds segments. Their order and numbers are
-- this project's own.)
use Rattle.std.specs.Prelude.{ℕ, ◌+◌, ◌==◌, Bool, ◌&&◌, ◌||◌, nat_lt, nat_le, if◌then◌else◌, Option, Some, None, is_none}
use Rattle.std.specs.Prelude.{option_and_then, option_map, List, [], ◌∷◌, ◌++◌, filter, find, map, length, slice_get}
use Rattle.std.specs.List.{list_any, flat_map}
use Rattle.std.specs.Option.{option_or}
use Rattle.omf_model.specs.Contents.{ContentValue}
use Rattle.omf_model.specs.Segments.{absolute_id, code_id, memory_id}
use Rattle.omf_model.specs.Modules.{ModuleValue}
use Rattle.omf_model.specs.Place.{Bases, place_in}
use Rattle.omf_model.specs.HighReferences.{any_loses_low_byte}
use Rattle.place80.specs.declared.options.Options.{Options}
use Rattle.place80.specs.declared.placed_segments.Placed.{Placed}
use Rattle.place80.specs.declared.place_fault.PlaceFault.{PlaceFault}
use Rattle.place80.specs.declared.place_fault.PlaceFault.TheVariants.{Unresolved, NoStart, OutsideMemory, Overlap, HighNotPaged, StartNotCode, Memory}
use Rattle.place80.specs.Layout.{placed_in, layout_of, program_bases}

-- the number of a fault
abbrev pub place_fault_code : PlaceFault → ℕ
place_fault_code (Unresolved name) = 1
place_fault_code NoStart = 2
place_fault_code (OutsideMemory id) = 3
place_fault_code (Overlap first second) = 4
place_fault_code HighNotPaged = 5
place_fault_code StartNotCode = 6
place_fault_code Memory = 7

-- the first external: LINK left it without a public
abbrev pub unresolved : ModuleValue → Option PlaceFault
unresolved m = option_map Unresolved (slice_get m.externals 0)

abbrev pub no_start : ModuleValue → Option PlaceFault
no_start m = if is_none m.start then Some NoStart else None

-- content of MEMORY that a length doesn't hold
abbrev pub passes_memory : ℕ → ContentValue → Bool
passes_memory size c = c.segment == memory_id && nat_lt size (c.offset + length c.bytes)

-- the segment passes the end of memory, or is MEMORY and no longer holds its content
abbrev pub is_outside : List ContentValue → Placed → Bool
is_outside contents p = nat_lt 65536 (p.base + p.length) || (p.id == memory_id && list_any (passes_memory p.length) contents)

abbrev pub first_outside : ModuleValue → List Placed → Option Placed
first_outside m segments = find (is_outside m.contents) segments

abbrev pub outside_memory : ModuleValue → List Placed → Option PlaceFault
outside_memory m segments = option_map (λ p. OutsideMemory p.id) (first_outside m segments)

-- an address lies in both
abbrev pub overlaps : Placed → Placed → Bool
overlaps p q = nat_lt 0 p.length && nat_lt 0 q.length && nat_lt p.base (q.base + q.length) && nat_lt q.base (p.base + p.length)

-- a place with each of others
abbrev pub beside_each : Placed → List Placed → List (Placed × Placed)
beside_each place others = map (λ p. (place, p)) others

-- each with each later one, in order
abbrev pub pairs : List Placed → List (Placed × Placed)
pairs [] = []
pairs (p ∷ ps) = beside_each p ps ++ pairs ps

-- the absolute contents, each as a place of id 0
abbrev pub absolute_place : ContentValue → Placed
absolute_place c = record { id = absolute_id; base = c.offset; length = length c.bytes }

abbrev pub absolute_places : List ContentValue → List Placed
absolute_places contents = map absolute_place (filter (λ c. c.segment == absolute_id) contents)

-- each of the places with each segment
abbrev pub with_each : List Placed → List Placed → List (Placed × Placed)
with_each segments places = flat_map (λ a. beside_each a segments) places

-- each two segments in order, and then each absolute content with each segment
abbrev pub all_pairs : ModuleValue → List Placed → List (Placed × Placed)
all_pairs m segments = pairs segments ++ with_each segments (absolute_places m.contents)

-- the first pair that shares an address
abbrev pub first_sharing : List (Placed × Placed) → Option (Placed × Placed)
first_sharing pqs = find (λ pq. overlaps pq.0 pq.1) pqs

-- it is reported by the ids
abbrev pub overlap_of : Placed × Placed → PlaceFault
overlap_of pq = Overlap pq.0.id pq.1.id

abbrev pub overlap : ModuleValue → List Placed → Option PlaceFault
overlap m segments = option_map overlap_of (first_sharing (all_pairs m segments))

-- a fixup takes the high byte of a word that isn't a multiple of 256
abbrev pub high_not_paged : Bases → ModuleValue → Option PlaceFault
high_not_paged bases m = if any_loses_low_byte bases (m ∷ []) then Some HighNotPaged else None

-- the start's place isn't in CODE
abbrev pub is_in_placed : Placed → ℕ → Bool
is_in_placed p address = nat_le p.base address && nat_lt address (p.base + p.length)

abbrev pub start_place : Bases → ModuleValue → ℕ × ℕ → ℕ
start_place bases m start = place_in bases (m ∷ []) 0 m start.0 start.1

abbrev pub start_not_code : Bases → ModuleValue → List Placed → Option PlaceFault
start_not_code bases m segments =
    let is_code = λ (start : ℕ × ℕ). is_in_placed (placed_in segments code_id) (start_place bases m start) in
    option_and_then (λ start. if is_code start then None else Some StartNotCode) m.start

-- why segments can't be laid out
abbrev pub layout_fault : Options → ModuleValue → Option PlaceFault
layout_fault options m = let segments = layout_of options m in option_or (outside_memory m segments) (overlap m segments)

-- why a program can't be located: the first of these that holds
abbrev pub locate_fault : Options → ModuleValue → Option PlaceFault
locate_fault options m =
    option_or (unresolved m)
    (option_or (no_start m)
    (option_or (layout_fault options m)
    (option_or (high_not_paged (program_bases options m) m)
    (start_not_code (program_bases options m) m (layout_of options m)))))
