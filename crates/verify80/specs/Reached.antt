-- Where runs go: along the walks that the verifier has followed. (This project's own.)
use Rattle.std.specs.Prelude.{◌≡◌, ℕ, true, List, Option, None, Some, Ok, slice_index_or}
use Rattle.decode80.specs.declared.fetching.Fetched.{Fetched}
use Rattle.frames80.specs.StackFrame.{StackFrame}
use Rattle.image80.specs.Image.{Located}
use Rattle.machine80.specs.Effects.{target}
use Rattle.machine80.specs.Step.{Machine}
use Rattle.machine80.specs.World.{World, fetched_by, returns}
use Rattle.frames80.specs.declared.procedure.Procedure.{Procedure}
use Rattle.frames80.specs.declared.procedure.Procedure.TheVariants.{Entry}
use Rattle.frames80.specs.Code.{Code}
use Rattle.verify80_flow.specs.Walks.{Walk, Calls}
use Rattle.verify80_flow.specs.Rows.{ReturnsWith}
use Rattle.verify80.specs.Looking.{code_of}
use Rattle.verify80.specs.Starts.{IsStart, IsWorldFrom}

-- a walk reaches an address
pub record IsReached (code : Code) (at : ℕ) : Type 0 where
  pub procedure : Procedure
  pub frame : StackFrame
  pub walk : Walk code procedure at frame

-- the instruction that a table has at an address, if it has one there
abbrev pub found_at : List (Option Fetched) → ℕ → Option Fetched
found_at table at = slice_index_or table at None

-- a table has an instruction at exactly the addresses that a walk reaches, and it is the one that the verifier finds there
pub record AreReached (code : Code) (table : List (Option Fetched)) : Type 0 where
  pub found : (at : ℕ) (found : Fetched) → found_at table at ≡ Some found → IsReached code at × (code.look at ≡ Ok found)
  pub none : (at : ℕ) → found_at table at ≡ None → IsReached code at → ⊥

-- a walk leads to where a world stands, and the world's next step fetches the instruction that the verifier has found there
pub record StandsOnWalk (image : Located) (w : World) : Type 0 where
  pub reached : IsReached (code_of image) w.machine.cpu.pc
  pub found : Fetched
  pub looked : (code_of image).look w.machine.cpu.pc ≡ Ok found
  pub fetched : fetched_by image.regions w ≡ Some found

-- an address is the one behind a call on a walk, and a walk of the callee returns
pub record IsBehindCall (code : Code) (at : ℕ) : Type 0 where
  pub caller : Procedure
  pub place : ℕ
  pub frame : StackFrame
  pub target : ℕ
  pub taken : ℕ
  pub walk : Walk code caller place frame
  pub call : Calls code caller place frame target at
  pub returns : ReturnsWith code (Entry target) taken

-- each world of each run of an image, from power-on, stands on a walk
abbrev pub RunsStandOnWalks : Located → Type 0
RunsStandOnWalks image =
    (start : Machine) → IsStart image start → (most : Option ℕ) (w : World) → IsWorldFrom image start most w →
    StandsOnWalk image w

-- each return that is taken goes behind a call on a walk whose callee returns on a walk
abbrev pub ReturnsGoBehindCalls : Located → Type 0
ReturnsGoBehindCalls image =
    (start : Machine) → IsStart image start → (most : Option ℕ) (w : World) (found : Fetched) → IsWorldFrom image start most w →
    fetched_by image.regions w ≡ Some found → returns found.instr w.machine.cpu.registers.flags ≡ true →
    IsBehindCall (code_of image) (target found.instr found.next w.machine.memory w.machine.cpu)

-- the two together
pub record StaysOnWalks (image : Located) : Type 0 where
  pub stands : RunsStandOnWalks image
  pub returning : ReturnsGoBehindCalls image
