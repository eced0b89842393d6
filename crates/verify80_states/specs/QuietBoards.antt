-- Boards whose devices leave some bytes of data alone. (This project's own; what a board is and does stands in verify80, specs/Boards.)
use Rattle.std.specs.Prelude.{◌≡◌, ◌&&◌, ◌||◌, ℕ, Bool, true, List, slice_index}
use Rattle.image80.specs.declared.range.Range.{Range}
use Rattle.image80.specs.{Range.in_ranges, Regions.Areas, Regions.in_data}
use Rattle.machine80.specs.{Step.Machine, World.World, Run.world_of}
use Rattle.verify80.specs.Boards.{Disturbs, Executes, respected_pointer, sets_sp}

-- Quiet addresses: those of data in some ranges. Nobody but the program writes there.
abbrev pub is_quiet : Areas → List Range → (address : ℕ) → Bool
is_quiet regions ranges address = in_data regions address && in_ranges ranges address

abbrev pub StaysQuiet : (quiet : ℕ → Bool) → (old new : List ℕ) → Type 0
StaysQuiet quiet old new = (address : ℕ) → quiet address ≡ true → slice_index new address ≡ slice_index old address

-- the worlds of a board whose devices leave quiet addresses as they are
pub data OnQuietBoard (regions : Areas) (quiet : ℕ → Bool) (listed : ℕ → Type 0) (start : Machine) (began : Bool) :
    (set : Bool) → World → Type 0 where
  begins : (set : Bool) (v : World) → v ≡ world_of start → set ≡ began → OnQuietBoard regions quiet listed start began set v
  disturbed : (set : Bool) (w v : World) → OnQuietBoard regions quiet listed start began set w →
      (by : Disturbs regions (respected_pointer regions set w) w v) → StaysQuiet quiet w.machine.memory by.memory →
      OnQuietBoard regions quiet listed start began set v
  executed : (before set : Bool) (w v : World) → OnQuietBoard regions quiet listed start began before w →
      (by : Executes regions listed w v) → set ≡ (before || sets_sp by.found.instr) → OnQuietBoard regions quiet listed start began set v
