-- What is promised of a program that a table follows, on every board whose devices leave quiet memory alone. (This project's own; what a board is and
-- does stands in verify80, specs/Boards; what interrupts are there in specs/InterruptedBoards.)
use Rattle.std.specs.Prelude.{◌≡◌, ◌≢◌, ◌⊎◌, ◌≤◌, ◌<◌, ℕ, Bool, true, false, List, All, Any, Contains, None, Some, IfSome, IsSome, length, slice_get}
use Rattle.decode80.specs.{declared.fetching.Fetched.Fetched, Fetch.direct_bytes}
use Rattle.decode80.specs.declared.instr.Instr.TheVariants.{Ei, Hlt, Pchl}
use Rattle.image80.specs.{Range.in_range, Regions.AreRegions, Regions.Areas, Regions.in_data, Regions.targets_at, Regions.top_of, Image.Located, Image.memory_of}
use Rattle.machine80.specs.{Cpu.hl_of, Effects.pointed_bytes, Effects.stack_bytes, Effects.target, Step.Machine, Step.fetch, World.World, World.returns, World.IsJustBelow}
use Rattle.verify80.specs.Looking.{declared_targets, halt_follows, is_declared}
use Rattle.verify80.specs.Boards.{IsFollowed, StaysInside, fetched_anywhere}
use Rattle.verify80_spans.specs.Span.{Within}
use Rattle.verify80_states.specs.{Bytes.HoldsBytes, Known.HoldsKnown, QuietBoards.OnQuietBoard, Steps.HasCode}
use Rattle.verify80_stores.specs.{declared.stores.OpenStore.OpenStore, Boards.IsListedAt}
use Rattle.verify80_follow.specs.declared.{followed.FollowedState.FollowedState, followed.Listed.Listed, followed.Way.Way}
use Rattle.verify80_follow.specs.{Held.Entry, Held.HoldsBeside, Held.count_of, InterruptedBoards.OnInterruptedBoard, Stack.HoldsStack}
use Rattle.verify80_follow.specs.{Stack.bounds_of, Stack.pointer_at, Follows.Follows, Follows.IsWay, Follows.Ways, Follows.places_among, Follows.stack_of, Follows.ways_of}

-- a store is listed at an address, or a PCHL is
abbrev pub IsLeftOpenAt : Listed → ℕ → Type 0
IsLeftOpenAt listed at = IsListedAt listed.stores.items listed.jumps.items at

-- an address that the instruction at `at` stores to by a pair is data, or one of the addresses of a store that is listed there
abbrev pub GoesToListed : Areas → List OpenStore → (at address : ℕ) → Type 0
GoesToListed regions stores at address = (in_data regions address ≡ true) ⊎ Any (λ store. (store.at ≡ at) × Within store.span address) stores

-- an address is in STACK, and among the `bytes` bytes just below its top
pub record IsOnStack (image : Located) (bytes address : ℕ) : Type 0 where
  pub in_stack : in_range image.regions.stack address ≡ true
  pub below : IsJustBelow (top_of image.regions) bytes address

-- what is promised of each world: its next instruction is fetched inside code, and is the image's; it stores directly to data alone, and by a pair to
-- data or where that is listed; a return that is taken, and a PCHL without declared targets, goes behind a call or by a listed way; a PCHL with declared
-- targets is listed, or goes to one of them; as stack it touches only bytes of STACK, a given number just below its top; if it is EI of a program that
-- isn't interrupted, the byte behind it is a HLT in the code; and unless it is HLT, the run goes on, whatever byte comes in, if it stays inside where
-- it is listed
pub record KeepsFollowed (image : Located) (interrupted : Bool) (bytes : ℕ) (ways : Ways) (listed : Listed) (w : World) : Type 0 where
  pub found : Fetched
  pub anywhere : fetched_anywhere w.machine.memory w.machine.cpu.pc ≡ Some found
  pub of_image : fetch image.regions (memory_of image.chunks) w.machine.cpu.pc ≡ Some found
  pub direct : All (λ address. in_data image.regions address ≡ true) (direct_bytes found.instr)
  pub pointed : All (GoesToListed image.regions listed.stores.items w.machine.cpu.pc) (pointed_bytes found.instr w.machine.cpu.registers)
  pub returning : returns found.instr w.machine.cpu.registers.flags ≡ true →
      IsWay image ways w.machine.cpu.pc (target found.instr found.next w.machine.memory w.machine.cpu)
  pub jumping : found.instr ≡ Pchl → targets_at image.regions w.machine.cpu.pc ≡ None → IsWay image ways w.machine.cpu.pc (hl_of w.machine.cpu.registers)
  pub declared : found.instr ≡ Pchl → is_declared image.regions w.machine.cpu.pc ≡ true →
      Contains (declared_targets image.regions w.machine.cpu.pc) (hl_of w.machine.cpu.registers) ⊎ Contains listed.jumps.items w.machine.cpu.pc
  pub stack : All (IsOnStack image bytes) (stack_bytes found.instr w.machine.cpu)
  pub halts : interrupted ≡ false → found.instr ≡ Ei → halt_follows image.regions w.machine.memory w.machine.cpu.pc ≡ true
  pub goes_on : found.instr ≢ Hlt → (IsLeftOpenAt listed w.machine.cpu.pc → StaysInside image.regions w.machine found.instr) →
      (byte : ℕ) → byte < 256 → IsFollowed image.regions (IsLeftOpenAt listed) byte w

-- an interrupt finds SP set, and at most `bytes` bytes below the stack's top
pub record IsReady (image : Located) (bytes : ℕ) (set : Bool) (w : World) : Type 0 where
  pub is_set : set ≡ true
  pub count : ℕ
  pub few : count ≤ bytes
  pub pointer : w.machine.cpu.sp ≡ pointer_at (bounds_of image) count

-- a state of the table holds of a world; as long as SP isn't set, nothing is known of the stack, and no interrupt may come if the program is interrupted
pub record KnowsWorld (image : Located) (interrupted : Bool) (entry : Entry) (table : List FollowedState) (set enabled : Bool) (w : World) : Type 0 where
  pub place : ℕ
  pub state : FollowedState
  pub there : slice_get table place ≡ Some state
  pub at : state.at ≡ w.machine.cpu.pc
  pub known : HoldsKnown state.known w.machine
  pub enables : enabled ≡ true → state.beside.is_enabled ≡ true
  pub held : HoldsBeside (bounds_of image) entry state.beside (count_of (stack_of state)) w.machine
  pub serves : interrupted ≡ true → enabled ≡ true → IsSome (stack_of state)
  pub stack : IfSome (stack_of state) (λ bytes. HoldsStack (bounds_of image) bytes w.machine.cpu.sp w.machine.memory × (set ≡ true))
  pub bytes : HoldsBytes w.machine
  pub whole : length w.machine.memory ≡ 65536
  pub code : HasCode image w.machine.memory

-- On every board whose devices leave quiet addresses as they are, from the image's start, with SP at the stack's top or anywhere, whatever registers and flags are and memory outside the
-- code holds: up to the first step at a listed address that stores outside data or jumps by HL to none of its declared targets, a program that a
-- table follows keeps that promise, and each of its instructions is at one of the places where the table's states stand. If nothing is listed, that is
-- each world of the run.
abbrev pub PromiseOfFollowed : Located → (quiet : ℕ → Bool) → (is_set : Bool) → (places : List ℕ) → List Way → Listed → (bytes : ℕ) → Type 0
PromiseOfFollowed image quiet is_set places ways listed bytes = (start : Machine) → start.cpu.pc ≡ image.start → length start.memory ≡ 65536 → HasCode image start.memory → HoldsBytes start →
    (is_set ≡ true → start.cpu.sp ≡ top_of image.regions) → (w : World) (set : Bool) → OnQuietBoard image.regions quiet (IsLeftOpenAt listed) start is_set set w →
    Contains places w.machine.cpu.pc × KeepsFollowed image false bytes (ways_of ways places) listed w

-- The same on every board on which it is interrupted by what gives back SP, registers, flags and what is pushed, and stores to data that isn't quiet:
-- the run goes on behind a HLT if interrupts may come, and wherever they may, SP is set, and no deeper than the stack's bound.
abbrev pub PromiseOfInterrupted : Located → (quiet : ℕ → Bool) → (is_set : Bool) → (places : List ℕ) → List Way → Listed → (bytes : ℕ) → Type 0
PromiseOfInterrupted image quiet is_set places ways listed bytes = (start : Machine) → start.cpu.pc ≡ image.start → length start.memory ≡ 65536 → HasCode image start.memory → HoldsBytes start →
    (is_set ≡ true → start.cpu.sp ≡ top_of image.regions) → (w : World) (set enabled : Bool) → OnInterruptedBoard image.regions quiet (IsLeftOpenAt listed) start is_set set enabled w →
    Contains places w.machine.cpu.pc × (KeepsFollowed image true bytes (ways_of ways places) listed w × (enabled ≡ true → IsReady image bytes set w))

-- what is promised of a program that is interrupted, or isn't
abbrev pub PromiseOf : (interrupted : Bool) → Located → (quiet : ℕ → Bool) → (is_set : Bool) → (places : List ℕ) → List Way → Listed → (bytes : ℕ) → Type 0
PromiseOf false image quiet is_set places ways listed bytes = PromiseOfFollowed image quiet is_set places ways listed bytes
PromiseOf true image quiet is_set places ways listed bytes = PromiseOfInterrupted image quiet is_set places ways listed bytes

abbrev pub FollowedProgramsKeepThePromise : Type 0
FollowedProgramsKeepThePromise = (interrupted : Bool) (image : Located) (quiet : ℕ → Bool) (is_set : Bool) (places : List ℕ) (ways : List Way) (listed : Listed) (table : List FollowedState) (bytes : ℕ) → AreRegions image.regions →
    ((at : ℕ) → quiet at ≡ true → in_data image.regions at ≡ true) → (fits : Follows image interrupted quiet is_set (ways_of ways places) listed table bytes) →
    ((at : ℕ) → Contains (places_among table fits.summaries) at → Contains places at) → bytes ≤ image.regions.stack.length →
    PromiseOf interrupted image quiet is_set places ways listed bytes
