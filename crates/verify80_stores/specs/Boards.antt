-- What is known of a program on every board. (This project's own; what a board is and does stands in verify80, specs/Boards.)
use Rattle.std.specs.Prelude.{◌≡◌, ◌⊎◌, ℕ, Bool, List, All, Any, Contains}
use Rattle.image80.specs.{Image.Located}
use Rattle.decode80.specs.declared.instr.Instr.TheVariants.{Pchl}
use Rattle.machine80.specs.{Cpu.hl_of, Effects.pointed_bytes, Step.Machine, World.World}
use Rattle.verify80.specs.Looking.{declared_targets}
use Rattle.verify80.specs.Boards.{KeepsPromise, MayStart, OnBoard}
use Rattle.verify80_states.specs.Bytes.{HoldsBytes}
use Rattle.verify80_states.specs.QuietBoards.{OnQuietBoard}
pub use Rattle.verify80_states.specs.QuietBoards.{is_quiet}
use Rattle.verify80_stores.specs.declared.stores.OpenStore.{OpenStore}
use Rattle.verify80_stores.specs.Stores.{GoesAsListed}

-- an open store is listed at an address, or a PCHL is
abbrev pub IsListedAt : List OpenStore → (jumps : List ℕ) → ℕ → Type 0
IsListedAt open_stores jumps at = Any (λ store. store.at ≡ at) open_stores ⊎ Contains jumps at

-- a world keeps the promise; its register-indirect stores go where they are listed to go, or to data; and a PCHL is listed, or goes to
-- one of its declared targets
pub record KeepsWholePromise (image : Located) (bytes : ℕ) (open_stores : List OpenStore) (open_jumps : List ℕ) (w : World) : Type 0 where
  pub promise : KeepsPromise image (IsListedAt open_stores open_jumps) bytes w
  pub stores : All (GoesAsListed image.regions open_stores w.machine.cpu.pc) (pointed_bytes promise.found.instr w.machine.cpu.registers)
  pub jumps : promise.found.instr ≡ Pchl →
      Contains open_jumps w.machine.cpu.pc ⊎ Contains (declared_targets image.regions w.machine.cpu.pc) (hl_of w.machine.cpu.registers)

-- On every board, from the image's start, if SP is at the stack's top or the program sets it before it uses it, whatever bytes registers
-- and memory outside the code hold, and whatever devices write to any byte that is neither code nor pushed: each world keeps the promise,
-- up to the first step at a listed address that stores outside data or jumps by HL to none of its declared targets. If nothing is listed,
-- that is each world of the run.
abbrev pub PromiseHoldsOnBoards : Located → (bytes : ℕ) → List OpenStore → (jumps : List ℕ) → Type 0
PromiseHoldsOnBoards image bytes open_stores jumps =
    (start : Machine) (began : Bool) → MayStart image began start → HoldsBytes start → (w : World) (set : Bool) →
    OnBoard image.regions (IsListedAt open_stores jumps) start began set w → KeepsWholePromise image bytes open_stores jumps w

-- the same promise on every board whose devices leave quiet addresses as they are
abbrev pub PromiseHoldsOnQuietBoards : Located → (quiet : ℕ → Bool) → (bytes : ℕ) → List OpenStore → (jumps : List ℕ) → Type 0
PromiseHoldsOnQuietBoards image quiet bytes open_stores jumps =
    (start : Machine) (began : Bool) → MayStart image began start → HoldsBytes start → (w : World) (set : Bool) →
    OnQuietBoard image.regions quiet (IsListedAt open_stores jumps) start began set w → KeepsWholePromise image bytes open_stores jumps w
