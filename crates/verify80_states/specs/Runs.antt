-- What a table of states says of runs. (This project's own.)
use Rattle.std.specs.Prelude.{◌≡◌, ℕ, Bool, true, List, Option, Some, length, slice_get, slice_index}
use Rattle.decode80.specs.declared.fetching.Fetched.{Fetched}
use Rattle.image80.specs.{Image.Located, Regions.AreRegions, Regions.in_data}
use Rattle.machine80.specs.{Effects.target, Step.Machine, Step.Next, Step.step_of, Run.world_of}
use Rattle.machine80.specs.World.{World, FetchesInside, IsNewest, fetched_by, places_then, returns}
use Rattle.verify80.specs.{Looking.code_of, Starts.IsStart, Starts.IsWorldFrom, Starts.NeverGoesWrongFromPowerOn, Reached.StandsOnWalk, Reached.StaysOnWalks, Boards.LeavesProgram, Boards.with_memory}
use Rattle.verify80_states.specs.{declared.fitting.fitting.Placed.Placed, declared.states.variables.Variable.Variable, Bytes.HoldsBytes, State.Holds}
use Rattle.verify80_states.specs.{Steps.AreCodeBytes, Steps.HasCode, Variables.HoldsSet, Calls.ReturnFacts, Calls.Owes, Calls.IsBehind, FittingTable.Fits}

-- one of the states that the table has at a world's address holds, and the world's memory has the image's code
pub record KeepsTo (image : Located) (table : List Placed) (w : World) : Type 0 where
  pub place : ℕ
  pub placed : Placed
  pub there : slice_get table place ≡ Some placed
  pub at : placed.at ≡ w.machine.cpu.pc
  pub holds : Holds image.regions placed.state w.machine
  pub code : HasCode image w.machine.memory
  pub whole : length w.machine.memory ≡ 65536

-- the same, each variable that the state names has one of its bytes, and what is owed to open calls is there
pub record KeepsToCalls (image : Located) (returns : ReturnFacts) (variables : List Variable) (table : List Placed) (w : World) : Type 0 where
  pub keeps : KeepsTo image table w
  pub set : HoldsSet variables keeps.placed.state.known.set w.machine.memory
  pub owes : Owes returns (IsBehind variables table w.machine.memory) w.machine.cpu.pc w.places

-- so it is for each world of each run from power-on, whatever bytes are in the registers, in memory outside the code and at the
-- ports
abbrev pub RunsKeepTo : Located → List Placed → Type 0
RunsKeepTo image table =
    (start : Machine) → IsStart image start → HoldsBytes start → (most : Option ℕ) (w : World) → IsWorldFrom image start most w →
    KeepsTo image table w

-- what the verifier knows of a world: it stands on a walk, a return that it takes goes to the place after the newest open call, and its
-- next step fetches inside code
pub record IsKnown (image : Located) (w : World) : Type 0 where
  pub stands : StandsOnWalk image w
  pub returning : (found : Fetched) → fetched_by image.regions w ≡ Some found → returns found.instr w.machine.cpu.registers.flags ≡ true →
      IsNewest (target found.instr found.next w.machine.memory w.machine.cpu) w.places
  pub inside : FetchesInside image.regions w

-- each start keeps to a table, and each step of a known world that keeps to it; and so it does when devices write to any byte that is
-- neither code nor pushed nor quiet
pub record IsKept (image : Located) (quiet : ℕ → Bool) (table : List Placed) : Type 0 where
  pub returns : ReturnFacts
  pub variables : List Variable
  pub starts : (start : Machine) → start.cpu.pc ≡ image.start → HasCode image start.memory → length start.memory ≡ 65536 → HoldsBytes start → StandsOnWalk image (world_of start) →
      KeepsToCalls image returns variables table (world_of start)
  pub steps : (refused : Bool) (w after : World) → IsKnown image w → StandsOnWalk image after → HoldsBytes w.machine →
      HoldsBytes after.machine → KeepsToCalls image returns variables table w → step_of image.regions refused w.machine ≡ Next after.machine →
      after.places ≡ places_then (fetched_by image.regions w) w.machine.cpu.registers.flags w.places →
      KeepsToCalls image returns variables table after
  pub disturbed : (w : World) (memory : List ℕ) → LeavesProgram image.regions w.machine.cpu.sp w.machine.memory memory → ((at : ℕ) → quiet at ≡ true → slice_index memory at ≡ slice_index w.machine.memory at) →
      KeepsToCalls image returns variables table w → KeepsToCalls image returns variables table (with_memory w memory)

-- a table that fits is kept, and runs that stay on walks keep to a table that is
abbrev pub FittingTablesAreKept : Type 0
FittingTablesAreKept = (image : Located) (quiet : ℕ → Bool) (code : List (Option ℕ)) (returns : ReturnFacts) (variables : List Variable) (table : List Placed) → AreRegions image.regions →
    AreCodeBytes image code → ((at : ℕ) → quiet at ≡ true → in_data image.regions at ≡ true) → Fits quiet (code_of image) code returns variables table → IsKept image quiet table

abbrev pub RunsKeepToKeptTables : Type 0
RunsKeepToKeptTables = (image : Located) (bytes : ℕ) (quiet : ℕ → Bool) (table : List Placed) → NeverGoesWrongFromPowerOn image bytes →
    StaysOnWalks image → IsKept image quiet table → RunsKeepTo image table
