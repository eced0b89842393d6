-- A jump to the program's start at address 0, where the processor begins.
-- (ISIS-II User's Guide, LOCATE: the control RESTART0. 8080 Assembly Language Programming Manual: a reset sets the program
-- counter to 0; JMP is C3 and the address, its low byte first.)
use Rattle.std.specs.Prelude.{◌≡◌, ℕ, ◌/◌, ◌%◌, ◌==◌, if◌then◌else◌, Option, Some, option_map, List, [], ◌∷◌, ◌++◌}
use Rattle.std.specs.Option.{option_or}
use Rattle.omf_model.specs.Segments.{absolute_id}
use Rattle.omf_model.specs.Modules.{ModuleValue}
use Rattle.omf_model.specs.ImageByte.{image_byte}
use Rattle.image80.specs.declared.range.Range.{Range}
use Rattle.image80.specs.Image.{PlacedBytes, byte_at}
use Rattle.image80.specs.Regions.{Areas, Arranges}
use Rattle.place80.specs.declared.options.Options.{Options}
use Rattle.place80.specs.declared.placed_segments.Placed.{Placed}
use Rattle.place80.specs.declared.place_fault.PlaceFault.{PlaceFault}
use Rattle.place80.specs.Layout.{layout_of, program_bases}
use Rattle.place80.specs.Locating.{located_chunks, program_start, located_code, located_stack, located_data}
use Rattle.place80.specs.PlaceFault.{locate_fault, beside_each, with_each, absolute_places, first_sharing, overlap_of}

-- the three bytes of the restart, as a place of absolute content, and as a range of code
abbrev pub restart_place : Placed
restart_place = record { id = absolute_id; base = 0; length = 3 }

abbrev pub restart_range : Range
restart_range = record { first = 0; length = 3 }

-- its chunk: a JMP to the start
abbrev pub restart_chunk : (start : ℕ) → PlacedBytes
restart_chunk start = record { address = 0; bytes = 0xC3 ∷ start % 256 ∷ start / 256 ∷ [] }

-- the restart with each segment, and each absolute content with the restart
abbrev pub restart_pairs : ModuleValue → List Placed → List (Placed × Placed)
restart_pairs m segments = beside_each restart_place segments ++ with_each (restart_place ∷ []) (absolute_places m.contents)

-- why a program can't be located with it: why it can't be located, or else what shares an address with the restart
abbrev pub restart_fault : Options → ModuleValue → Option PlaceFault
restart_fault options m =
    option_or (locate_fault options m) (option_map overlap_of (first_sharing (restart_pairs m (layout_of options m))))

-- the byte at an address: those of the JMP at 0 to 2, and the program's everywhere else
abbrev pub byte_with_restart : (start other address : ℕ) → ℕ
byte_with_restart start other address =
    if address == 0 then 0xC3 else if address == 1 then start % 256 else if address == 2 then start / 256 else other

-- these chunks have that byte at every address
abbrev pub HoldsProgramAndRestart : Options → ModuleValue → (start : ℕ) → List PlacedBytes → Type 0
HoldsProgramAndRestart options m start chunks = (address : ℕ) →
    byte_at chunks address ≡ byte_with_restart start (image_byte (program_bases options m) (m ∷ []) address) address

-- the chunks of the program with a restart, which goes to the program's start
pub record RestartsAt (options : Options) (m : ModuleValue) (chunks : List PlacedBytes) : Type 0 where
  pub start : ℕ
  pub goes : program_start options m ≡ Some start
  pub are : chunks ≡ located_chunks options m ++ restart_chunk start ∷ []
  pub memory : HoldsProgramAndRestart options m start chunks

-- the regions of the segments, with the restart among the code
abbrev pub ArrangesWithRestart : List Placed → Areas → Type 0
ArrangesWithRestart segments areas =
    Arranges (located_code segments ++ restart_range ∷ []) (located_stack segments) (located_data segments) areas
