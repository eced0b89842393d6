-- Live machines: at any moment at which interrupts are enabled one may come, and a declared handler is executed then, instruction by instruction. (Intel 8080
-- Microcomputer Systems User's Manual, chapter 2: an interrupt is taken behind the instruction that is executed, or wakes HLT; it disables interrupts,
-- pushes the program counter and goes to its handler, by RST or CALL; EI enables them behind the next instruction. That a handler is over when SP is what it
-- was, or is set by LXI, is this project's own.)
use Rattle.std.specs.Prelude.{◌≡◌, ◌≢◌, ◌⊎◌, ◌≤◌, ◌<◌, ◌+◌, ◌||◌, ◌&&◌, ◌++◌, ◌∷◌, [], ℕ, ◌/◌, ◌%◌, Bool, true, false, slice_index, List, Option}
use Rattle.std.specs.Prelude.{None, Some, All, Contains, nat_eq, length, if◌then◌else◌}
use Rattle.std.specs.List.{flat_map}
use Rattle.decode80.specs.{Fetch.behind, Fetch.direct_bytes, declared.fetching.Fetched.Fetched, declared.instr.Instr.Instr}
use Rattle.decode80.specs.declared.instr.Instr.TheVariants.{Di, Ei, Hlt, Lxi, Pchl}
use Rattle.decode80.specs.declared.pair.Pair.TheVariants.{Sp}
use Rattle.image80.specs.{Image.Located, Image.memory_of, Regions.AreRegions, Regions.Areas, Regions.in_data, Regions.targets_at, Regions.top_of}
use Rattle.machine80.specs.{Cpu.hl_of, Effects.pointed_bytes, Effects.push_bytes, Effects.stack_bytes, Effects.stored}
use Rattle.machine80.specs.{Effects.target, Run.world_of, Step.Machine, Step.fetch, World.World, World.returns}
use Rattle.verify80.specs.Boards.{Disturbs, Executes, IsFollowed, IsPushed, StaysInside, fetched_anywhere, respected_pointer, sets_sp}
use Rattle.verify80.specs.Looking.{declared_targets, is_declared}
use Rattle.verify80_states.specs.{Bytes.HoldsBytes, QuietBoards.StaysQuiet, Steps.HasCode}
use Rattle.verify80_follow.specs.{Follows.Follows, Follows.IsWay, Follows.Ways, Follows.places_among, Follows.ways_of, Handling.HandlesAmong}
use Rattle.verify80_follow.specs.declared.{followed.FollowedState.FollowedState, followed.Listed.Listed, followed.Way.Way, handling.Handler.Handler}
use Rattle.verify80_follow.specs.InterruptedBoards.{with_pc}
use Rattle.verify80_follow.specs.Promise.{GoesToListed, IsLeftOpenAt, IsOnStack, KeepsFollowed}

-- whether interrupts are enabled: off, from the next instruction on, or on
pub data Enable : Type 0 where
  off : Enable
  soon : Enable
  on : Enable

abbrev pub may_come : Enable → Bool
may_come off = false
may_come soon = true
may_come on = true

abbrev pub passed : Enable → Enable
passed off = off
passed soon = on
passed on = on

abbrev pub enable_after : Instr → Enable → Enable
enable_after Ei before = soon
enable_after Di before = off
enable_after instr before = passed before

-- a world stands at a HLT, behind which a place is
pub record IsHaltedBefore (w : World) (place : ℕ) : Type 0 where
  pub found : Fetched
  pub fetched : fetched_anywhere w.machine.memory w.machine.cpu.pc ≡ Some found
  pub halts : found.instr ≡ Hlt
  pub next : found.next ≡ place

-- an interrupt may come, and returns to a place: to the next instruction, or behind the HLT that it wakes
abbrev pub Takes : Enable → World → (place : ℕ) → Type 0
Takes flag w place = ((flag ≡ on) × (place ≡ w.machine.cpu.pc)) ⊎ ((may_come flag ≡ true) × IsHaltedBefore w place)

-- the machine at a handler that returns to a place
abbrev pub entering : Machine → (place handler : ℕ) → Machine
entering m place handler = record m {
  cpu = record m.cpu { sp = behind m.cpu.sp 2; pc = handler };
  memory = stored m.memory (push_bytes m.cpu.sp (place / 256) (place % 256));
}

-- a handler is over when SP is what it was, and the places of open calls are those of the interrupted world then
abbrev pub is_back : World → World → Bool
is_back u v = nat_eq v.machine.cpu.sp u.machine.cpu.sp

abbrev pub again : World → World → World
again u v = if is_back u v then record { machine = v.machine; places = u.places } else v

-- or when it sets SP by LXI: the interrupted world is left, as open calls are by a program that does so
abbrev pub under_after : Instr → Option World → World → Option World
under_after instr None v = None
under_after instr (Some u) v = if sets_sp instr then None else (if is_back u v then None else Some u)

abbrev pub world_after : Instr → Option World → World → World
world_after instr None v = v
world_after instr (Some u) v = if sets_sp instr then v else again u v

-- The worlds of a live machine on a board whose devices leave quiet addresses as they are. Beside each stands whether SP is set, whether interrupts are
-- enabled, and the interrupted world if a handler is executed.
pub data OnLiveBoard (regions : Areas) (quiet : ℕ → Bool) (handlers : List ℕ) (listed : ℕ → Type 0) (start : Machine) (began : Bool) :
    (set : Bool) → Enable → Option World → World → Type 0 where
  begins : (set : Bool) (flag : Enable) (under : Option World) (v : World) → v ≡ world_of start → set ≡ began → flag ≡ off → under ≡ None →
      OnLiveBoard regions quiet handlers listed start began set flag under v
  disturbed : (set : Bool) (flag : Enable) (under : Option World) (w v : World) → OnLiveBoard regions quiet handlers listed start began set flag under w →
      (by : Disturbs regions (respected_pointer regions set w) w v) → StaysQuiet quiet w.machine.memory by.memory →
      OnLiveBoard regions quiet handlers listed start began set flag under v
  executed : (before set : Bool) (was flag : Enable) (under then_under : Option World) (w v there : World) → OnLiveBoard regions quiet handlers listed start began before was under w →
      (by : Executes regions listed w v) → set ≡ (before || sets_sp by.found.instr) → flag ≡ enable_after by.found.instr was → then_under ≡ under_after by.found.instr under v → there ≡ world_after by.found.instr under v →
      OnLiveBoard regions quiet handlers listed start began set flag then_under there
  interrupted : (set : Bool) (was flag : Enable) (under : Option World) (w v : World) (place handler : ℕ) → OnLiveBoard regions quiet handlers listed start began set was None w →
      Takes was w place → Contains handlers handler → v ≡ record { machine = entering w.machine place handler; places = w.places } → flag ≡ off → under ≡ Some (with_pc w place) →
      OnLiveBoard regions quiet handlers listed start began set flag under v

-- what is said of handlers: which data they write, how many bytes of stack they have at most, the two of the interrupt among them, and their ways
pub record HandlerBounds : Type 0 where
  pub written : ℕ → Bool
  pub bytes : ℕ
  pub ways : List Way

-- a stack pointer is at least two and at most `bytes` bytes below where it was
pub record LiesBelow (was most sp : ℕ) : Type 0 where
  pub count : ℕ
  pub some : 2 ≤ count
  pub few : count ≤ most
  pub is : sp ≡ behind was count

-- what is promised while a handler is executed that has interrupted a world: its next instruction is fetched inside code, and is the image's; it stores
-- directly to data alone, and by a pair to data or where that is listed; of data it stores only to what handlers write; a return that is taken, and a PCHL
-- without declared targets, goes behind a call, by a listed way or back to where the world was interrupted; a PCHL with declared targets is listed, or goes
-- to one of them; as stack it touches only bytes of STACK, a given number just below its top; no interrupt may come; SP is as far below where it was as the
-- handler has bytes, at most, and what was pushed then is unchanged; it sets SP by LXI only to the stack's top; if SP is what it was behind the
-- instruction, so are all registers and flags, and the program goes on where it was interrupted; and unless the instruction is HLT, the run goes on,
-- whatever byte comes in, if it stays inside where it is listed
pub record KeepsHandler (image : Located) (places : List ℕ) (main : ℕ) (inner : HandlerBounds) (listed : Listed) (flag : Enable) (u w : World) : Type 0 where
  pub found : Fetched
  pub anywhere : fetched_anywhere w.machine.memory w.machine.cpu.pc ≡ Some found
  pub of_image : fetch image.regions (memory_of image.chunks) w.machine.cpu.pc ≡ Some found
  pub direct : All (λ address. in_data image.regions address ≡ true) (direct_bytes found.instr)
  pub pointed : All (GoesToListed image.regions listed.stores.items w.machine.cpu.pc) (pointed_bytes found.instr w.machine.cpu.registers)
  pub writes : All (λ address. in_data image.regions address ≡ true → inner.written address ≡ true) (direct_bytes found.instr ++ pointed_bytes found.instr w.machine.cpu.registers)
  pub returning : returns found.instr w.machine.cpu.registers.flags ≡ true →
      (target found.instr found.next w.machine.memory w.machine.cpu ≡ u.machine.cpu.pc) ⊎ IsWay image (ways_of inner.ways places) w.machine.cpu.pc (target found.instr found.next w.machine.memory w.machine.cpu)
  pub jumping : found.instr ≡ Pchl → targets_at image.regions w.machine.cpu.pc ≡ None → IsWay image (ways_of inner.ways places) w.machine.cpu.pc (hl_of w.machine.cpu.registers)
  pub declared : found.instr ≡ Pchl → is_declared image.regions w.machine.cpu.pc ≡ true →
      Contains (declared_targets image.regions w.machine.cpu.pc) (hl_of w.machine.cpu.registers) ⊎ Contains listed.jumps.items w.machine.cpu.pc
  pub stack : All (IsOnStack image (main + inner.bytes)) (stack_bytes found.instr w.machine.cpu)
  pub alone : (place : ℕ) → Takes flag w place → ⊥
  pub lies : LiesBelow u.machine.cpu.sp inner.bytes w.machine.cpu.sp
  pub pushed : (address : ℕ) → IsPushed image.regions u.machine.cpu.sp address → slice_index w.machine.memory address ≡ slice_index u.machine.memory address
  pub anew : sets_sp found.instr ≡ true → found.instr ≡ Lxi Sp (top_of image.regions)
  pub gives_back : (v : World) → Executes image.regions (IsLeftOpenAt listed) w v → sets_sp found.instr ≡ false → is_back u v ≡ true → v.machine.cpu ≡ u.machine.cpu
  pub goes_on : found.instr ≢ Hlt → (IsLeftOpenAt listed w.machine.cpu.pc → StaysInside image.regions w.machine found.instr) →
      (byte : ℕ) → byte < 256 → IsFollowed image.regions (IsLeftOpenAt listed) byte w

-- what is promised of a world of the program between interrupts: that of one that is interrupted; and an interrupt that a handler answers pushes its two
-- bytes onto STACK, below what the program has on it at most
pub record KeepsProgram (image : Located) (handlers : List ℕ) (main : ℕ) (inner : HandlerBounds) (ways : Ways) (listed : Listed) (flag : Enable) (w : World) : Type 0 where
  pub keeps : KeepsFollowed image true main ways listed w
  pub pushes : (place handler : ℕ) → Takes flag w place → Contains handlers handler →
      All (IsOnStack image (main + inner.bytes)) (behind w.machine.cpu.sp 1 ∷ behind w.machine.cpu.sp 2 ∷ [])

-- what is promised of a world: of the program between interrupts, or of the handler that is executed
abbrev pub KeepsLive : Located → (handlers : List ℕ) → (main : ℕ) → HandlerBounds → Ways → Listed → Enable → Option World → World → Type 0
KeepsLive image handlers main inner ways listed flag None w = KeepsProgram image handlers main inner ways listed flag w
KeepsLive image handlers main inner ways listed flag (Some u) w = KeepsHandler image ways.places main inner listed flag u w

-- the ways of handlers' tables
abbrev pub handler_ways : List Handler → List Way
handler_ways handlers = flat_map (λ handler. handler.table.ways.items) handlers

-- On every live machine, from the image's start: up to the first step at a listed address that stores outside data or jumps by HL to none of its declared
-- targets. Each instruction is at one of the places where the tables' states stand.
abbrev pub PromiseOfLive : Located → (quiet : ℕ → Bool) → (is_set : Bool) → (handlers places : List ℕ) → List Way → Listed → (main : ℕ) → HandlerBounds → Type 0
PromiseOfLive image quiet is_set handlers places ways listed main inner = (start : Machine) → start.cpu.pc ≡ image.start → length start.memory ≡ 65536 → HasCode image start.memory → HoldsBytes start →
    (is_set ≡ true → start.cpu.sp ≡ top_of image.regions) → (w : World) (set : Bool) (flag : Enable) (under : Option World) →
    OnLiveBoard image.regions quiet handlers (IsLeftOpenAt listed) start is_set set flag under w →
    Contains places w.machine.cpu.pc × KeepsLive image handlers main inner (ways_of ways places) listed flag under w

-- a program that a table follows, with handlers that tables follow, keeps that promise if there is room for both, and handlers write no quiet data
abbrev pub LiveMachinesKeepThePromise : Type 0
LiveMachinesKeepThePromise = (image : Located) (quiet : ℕ → Bool) (is_set : Bool) (handlers places : List ℕ) (ways : List Way) (listed : Listed) (table : List FollowedState) (main : ℕ) (inner : HandlerBounds) → AreRegions image.regions →
    ((at : ℕ) → quiet at ≡ true → in_data image.regions at ≡ true) → ((at : ℕ) → quiet at ≡ true → inner.written at ≡ false) →
    (fits : Follows image true quiet is_set (ways_of ways places) listed table main) → ((at : ℕ) → Contains (places_among table fits.summaries) at → Contains places at) →
    ((handler : ℕ) → Contains handlers handler → HandlesAmong image table inner.written quiet inner.ways places listed inner.bytes handler) →
    main + inner.bytes ≤ image.regions.stack.length → PromiseOfLive image quiet is_set handlers places ways listed main inner
