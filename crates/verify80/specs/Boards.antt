-- Runs on a board. A board is a machine that nothing guards, among devices, and it owns every byte but those of code and those that are
-- pushed, which are the stack's from SP up: before each instruction any other byte may have become any byte (devices in the memory map,
-- DMA, cells with two addresses), IN brings any byte, OUT is taken, PCHL goes where HL says, and a store changes the byte that it names,
-- wherever that is. (Intel 8080 Microcomputer Systems User's Manual, chapter 2: memory-mapped I/O and DMA. That the board is an adversary
-- is this project's own.)
use Rattle.std.specs.Prelude.{◌≡◌, ◌≢◌, ◌⊎◌, ◌||◌, ℕ, ◌<◌, ◌≤◌, Bool, true, false, List, Option, None, Some, IsSome, All, length, slice_index}
use Rattle.std.specs.Result.{result_ok}
use Rattle.decode80.specs.declared.instr.Instr.{Instr}
use Rattle.decode80.specs.declared.instr.Instr.TheVariants.{Lxi, Dad, Inx, Dcx, Sphl, Push, Pop, Xthl, Call, CallIf, Ret, ReturnIf, Rst, Hlt, Ei, In, Out, Pchl}
use Rattle.decode80.specs.declared.pair.Pair.TheVariants.{Sp}
use Rattle.decode80.specs.declared.fetching.Fetched.{Fetched}
use Rattle.decode80.specs.declared.flow.Flow.{Flow}
use Rattle.decode80.specs.declared.flow.Flow.TheVariants.{Continues, Jumps, JumpsIf, JumpsToHl, Calls, CallsIf, Returns, ReturnsIf, Pushes, Pops, Exchanges, Halts}
use Rattle.decode80.specs.Facts.{flow}
use Rattle.decode80.specs.Fetch.{direct_bytes, fetch as fetch_in}
use Rattle.image80.specs.Range.{in_range}
use Rattle.image80.specs.Regions.{Areas, AreRegions, in_code, in_data, targets_at, top_of}
use Rattle.image80.specs.Image.{Located, memory_of}
use Rattle.machine80.specs.Cpu.{hl_of}
use Rattle.machine80.specs.Effects.{pointed_bytes, stack_bytes, target}
use Rattle.machine80.specs.Step.{Machine, Next, fetch, leads_outside, proceeded, step_of}
use Rattle.machine80.specs.World.{World, fetched_by, places_after, returns, IsNewest, IsJustBelow}
use Rattle.machine80.specs.Run.{world_of}
use Rattle.verify80_flow.specs.declared.report.ProcRow.{ProcRow}
use Rattle.verify80_flow.specs.Accepted.{IsAccepted}
use Rattle.verify80_flow.specs.Fitting.{IsFitted}
use Rattle.verify80.specs.Looking.{code_of, halt_follows}
use Rattle.verify80.specs.Starts.{IsStart}
use Rattle.verify80.specs.Reached.{StandsOnWalk, IsBehindCall}

-- an address is one of the stack's from a stack pointer up, where what is pushed lies; nothing is if that is at the stack's top
pub record IsPushed (regions : Areas) (pointer address : ℕ) : Type 0 where
  pub in_stack : in_range regions.stack address ≡ true
  pub above : pointer ≤ address
  pub filled : pointer ≢ top_of regions

-- what the board leaves of a memory: each byte of code, and each that is pushed
pub record LeavesProgram (regions : Areas) (pointer : ℕ) (old new : List ℕ) : Type 0 where
  pub code : (address : ℕ) → in_code regions address ≡ true → slice_index new address ≡ slice_index old address
  pub pushed : (address : ℕ) → IsPushed regions pointer address → slice_index new address ≡ slice_index old address
  pub size : length new ≡ length old
  pub bytes : All (λ byte. byte < 256) new

-- a world with another memory
abbrev pub with_memory : World → List ℕ → World
with_memory w memory = record { machine = record w.machine { memory = memory }; places = w.places }

pub record Disturbs (regions : Areas) (pointer : ℕ) (w v : World) : Type 0 where
  pub memory : List ℕ
  pub leaves : LeavesProgram regions pointer w.machine.memory memory
  pub is : v ≡ with_memory w memory

-- the instruction that a processor fetches from a memory, wherever that is
abbrev pub fetched_anywhere : List ℕ → ℕ → Option Fetched
fetched_anywhere memory address = result_ok (fetch_in (λ place. true) (λ place. slice_index memory place) address)

-- what an instruction leads to if nothing guards it: IN brings this byte, OUT is taken, after HLT nothing comes, and any other does
-- what it does. (What waits at the ports of the machine, and what was put out, counts for nothing.)
abbrev pub unguarded : Instr → (byte next : ℕ) → Machine → Option Machine
unguarded Hlt byte next m = None
unguarded (In port) byte next m = Some (record m { cpu = record m.cpu { registers = record m.cpu.registers { a = byte }; pc = next } })
unguarded (Out port) byte next m = Some (record m { cpu = record m.cpu { pc = next } })
unguarded i byte next m = Some (proceeded i next m)

-- an instruction stores through a register pair to data alone, and jumps by HL to one of its declared targets
pub record StaysInside (regions : Areas) (m : Machine) (instr : Instr) : Type 0 where
  pub stores : All (λ address. in_data regions address ≡ true) (pointed_bytes instr m.cpu.registers)
  pub jumps : instr ≡ Pchl → leads_outside (targets_at regions m.cpu.pc) (hl_of m.cpu.registers) ≡ false

-- an instruction is fetched and executed; if its address is listed, it stays inside
pub record Executes (regions : Areas) (listed : ℕ → Type 0) (w v : World) : Type 0 where
  pub found : Fetched
  pub byte : ℕ
  pub after : Machine
  pub fetched : fetched_anywhere w.machine.memory w.machine.cpu.pc ≡ Some found
  pub small : byte < 256
  pub inside : listed w.machine.cpu.pc → StaysInside regions w.machine found.instr
  pub goes : unguarded found.instr byte found.next w.machine ≡ Some after
  pub is : v ≡ record { machine = after; places = places_after found.instr found.next w.machine.cpu.registers.flags w.places }

-- whether an instruction sets SP to a word of its own
abbrev pub sets_sp : Instr → Bool
sets_sp (Lxi Sp _) = true
sets_sp _ = false

-- the stack pointer that a board respects: SP, or the stack's top as long as SP isn't set
abbrev pub respected_pointer : Areas → (set : Bool) → World → ℕ
respected_pointer regions true w = w.machine.cpu.sp
respected_pointer regions false w = top_of regions

-- a world with that stack pointer
abbrev pub with_respected_pointer : Areas → (set : Bool) → World → World
with_respected_pointer regions true w = w
with_respected_pointer regions false w = record { machine = record w.machine { cpu = record w.machine.cpu { sp = top_of regions } }; places = w.places }

-- the worlds of a board, from a machine on: up to the first instruction at a listed address that doesn't stay inside. Beside each stands
-- whether SP is set: it is if it was when the run began, or once an instruction has set it
pub data OnBoard (regions : Areas) (listed : ℕ → Type 0) (start : Machine) (began : Bool) : (set : Bool) → World → Type 0 where
  begins : (set : Bool) (v : World) → v ≡ world_of start → set ≡ began → OnBoard regions listed start began set v
  disturbed : (set : Bool) (w v : World) → OnBoard regions listed start began set w → Disturbs regions (respected_pointer regions set w) w v →
      OnBoard regions listed start began set v
  executed : (before set : Bool) (w v : World) → OnBoard regions listed start began before w → (by : Executes regions listed w v) →
      set ≡ (before || sets_sp by.found.instr) → OnBoard regions listed start began set v

-- Each address is listed: worlds up to the first store through a pair outside data, or the first PCHL outside its targets.
abbrev pub Anywhere : ℕ → Type 0
Anywhere address = Unit {0}

-- whether what an instruction does depends on what SP is
abbrev pub uses_sp : Instr → Bool
uses_sp (Dad Sp) = true
uses_sp (Inx Sp) = true
uses_sp (Dcx Sp) = true
uses_sp Sphl = true
uses_sp (Push _) = true
uses_sp (Pop _) = true
uses_sp Xthl = true
uses_sp (Call _) = true
uses_sp (CallIf _ _) = true
uses_sp Ret = true
uses_sp (ReturnIf _) = true
uses_sp (Rst _) = true
uses_sp _ = false

-- where an instruction at an address leads that uses no stack: to the next one, to an address, to either, or to a declared target
abbrev pub GoesBy : Areas → (at : ℕ) → Flow → (next to : ℕ) → Type 0
GoesBy regions at Continues next to = to ≡ next
GoesBy regions at (Jumps address) next to = to ≡ address
GoesBy regions at (JumpsIf _ address) next to = (to ≡ next) ⊎ (to ≡ address)
GoesBy regions at JumpsToHl next to = leads_outside (targets_at regions at) to ≡ false
GoesBy regions at (Calls _) next to = ⊥
GoesBy regions at (CallsIf _ _) next to = ⊥
GoesBy regions at Returns next to = ⊥
GoesBy regions at (ReturnsIf _) next to = ⊥
GoesBy regions at Pushes next to = ⊥
GoesBy regions at Pops next to = ⊥
GoesBy regions at Exchanges next to = ⊥
GoesBy regions at Halts next to = ⊥

-- the image has an instruction at an address
abbrev pub HasAt : Located → (at : ℕ) → Fetched → Type 0
HasAt image at found = fetch image.regions (memory_of image.chunks) at ≡ Some found

-- the addresses that the main program may reach before it has set SP
pub data IsUnset (image : Located) : ℕ → Type 0 where
  starts : (at : ℕ) → at ≡ image.start → IsUnset image at
  goes_on : (at : ℕ) (found : Fetched) (to : ℕ) → IsUnset image at → HasAt image at found → sets_sp found.instr ≡ false →
      GoesBy image.regions at (flow found.instr) found.next to → IsUnset image to

-- on each way the main program sets SP before it uses it
abbrev pub SetsStack : Located → Type 0
SetsStack image = (at : ℕ) (found : Fetched) → IsUnset image at → HasAt image at found → uses_sp found.instr ≡ false

-- a machine at the image's start, SP being anything, if the program sets it before it uses it
pub record StartsUnset (image : Located) (m : Machine) : Type 0 where
  pub pc : m.cpu.pc ≡ image.start
  pub whole : length m.memory ≡ 65536
  pub code : (address : ℕ) → in_code image.regions address ≡ true →
      slice_index m.memory address ≡ slice_index (memory_of image.chunks) address
  pub sets : SetsStack image

-- a machine on which a run on a board may begin: at the image's start, with SP set to the stack's top, or not set and anywhere, if the
-- program sets it before it uses it; its other memory, its registers and its flags are whatever they are
abbrev pub MayStart : Located → (set : Bool) → Machine → Type 0
MayStart image true m = IsStart image m
MayStart image false m = StartsUnset image m

-- a world's instruction is executed, and leads to another world; if it is IN, this byte comes in
pub record IsFollowed (regions : Areas) (listed : ℕ → Type 0) (byte : ℕ) (w : World) : Type 0 where
  pub next : World
  pub step : Executes regions listed w next
  pub brought : step.byte ≡ byte

-- what is promised of a world on a board: its next instruction is fetched inside code, and is the image's; it stores directly to data
-- alone; a PCHL has declared targets; if it is a return that is taken, it goes to the place after the newest call that has not returned;
-- as stack it touches only a given number of bytes just below the stack's top; if it is EI, the byte behind it is a HLT in the code; and
-- unless it is HLT, the run goes on, whatever byte comes in, if it stays inside where it is listed
pub record KeepsPromise (image : Located) (listed : ℕ → Type 0) (bytes : ℕ) (w : World) : Type 0 where
  pub found : Fetched
  pub anywhere : fetched_anywhere w.machine.memory w.machine.cpu.pc ≡ Some found
  pub inside : fetched_by image.regions w ≡ Some found
  pub of_image : fetch image.regions (memory_of image.chunks) w.machine.cpu.pc ≡ Some found
  pub direct : All (λ address. in_data image.regions address ≡ true) (direct_bytes found.instr)
  pub declared : found.instr ≡ Pchl → IsSome (targets_at image.regions w.machine.cpu.pc)
  pub returning : returns found.instr w.machine.cpu.registers.flags ≡ true →
      IsNewest (target found.instr found.next w.machine.memory w.machine.cpu) w.places
  pub stack : All (λ address. IsJustBelow (top_of image.regions) bytes address) (stack_bytes found.instr w.machine.cpu)
  pub halts : found.instr ≡ Ei → halt_follows image.regions w.machine.memory w.machine.cpu.pc ≡ true
  pub goes_on : found.instr ≢ Hlt → (listed w.machine.cpu.pc → StaysInside image.regions w.machine found.instr) →
      (byte : ℕ) → byte < 256 → IsFollowed image.regions listed byte w

-- on every board, from the image's start, whatever registers, flags and memory hold: up to the first
-- store through a pair outside data or the first PCHL outside its targets, an image that a table of frames fits keeps the promise
abbrev pub PromiseIsKeptOnBoards : Type 0
PromiseIsKeptOnBoards = (image : Located) (bytes : ℕ) → AreRegions image.regions → IsFitted (code_of image) bytes →
    bytes ≤ image.regions.stack.length → (start : Machine) (began : Bool) → MayStart image began start → (w : World) (set : Bool) →
    OnBoard image.regions Anywhere start began set w → KeepsPromise image Anywhere bytes w

-- a world stands on a walk, and a return that it takes goes behind a call on a walk whose callee returns on a walk
pub record KeepsToWalks (image : Located) (w : World) : Type 0 where
  pub stands : StandsOnWalk image w
  pub returning : (found : Fetched) → fetched_by image.regions w ≡ Some found → returns found.instr w.machine.cpu.registers.flags ≡ true →
      IsBehindCall (code_of image) (target found.instr found.next w.machine.memory w.machine.cpu)

-- and a program that is accepted stays on its walks
abbrev pub WalksAreKeptOnBoards : Type 0
WalksAreKeptOnBoards = (image : Located) (listed : List ProcRow) (bytes : ℕ) → AreRegions image.regions →
    IsAccepted (code_of image) listed bytes → (start : Machine) (began : Bool) → MayStart image began start → (w : World) (set : Bool) →
    OnBoard image.regions Anywhere start began set w → KeepsToWalks image w

-- A step that nothing guards is a step of the machine, whose guard has nothing to say, with other bytes at its ports; what it leaves is
-- the same but for what the ports hold.
pub record IsGuarded (regions : Areas) (m after : Machine) : Type 0 where
  pub inputs : List (List ℕ)
  pub bytes : All (All (λ byte. byte < 256)) inputs
  pub there : Machine
  pub step : step_of regions false (record m { inputs = inputs }) ≡ Next there
  pub is : record there { inputs = m.inputs; outputs = m.outputs } ≡ after

abbrev pub BoardStepsAreGuarded : Type 0
BoardStepsAreGuarded = (image : Located) (bytes : ℕ) → AreRegions image.regions → IsFitted (code_of image) bytes →
    bytes ≤ image.regions.stack.length → (start : Machine) (began : Bool) → MayStart image began start → (w v : World) (set : Bool) →
    OnBoard image.regions Anywhere start began set w → (step : Executes image.regions Anywhere w v) →
    IsGuarded image.regions w.machine step.after

-- As long as SP isn't set, nothing depends on it: what a board executes it also executes with SP at the stack's top.
abbrev pub UnsetPointerCountsForNothing : Type 0
UnsetPointerCountsForNothing = (image : Located) (bytes : ℕ) → AreRegions image.regions → IsFitted (code_of image) bytes →
    bytes ≤ image.regions.stack.length → (start : Machine) (began : Bool) → MayStart image began start → (w v : World) (before set : Bool) →
    OnBoard image.regions Anywhere start began before w → (step : Executes image.regions Anywhere w v) →
    set ≡ (before || sets_sp step.found.instr) →
    Executes image.regions Anywhere (with_respected_pointer image.regions before w) (with_respected_pointer image.regions set v)
