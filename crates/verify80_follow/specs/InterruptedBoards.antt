-- Boards on which a program is interrupted. (Intel 8080 Microcomputer Systems User's Manual, chapter 2: interrupts, EI, DI and HLT. That a handler
-- which gives everything back is a device is this project's own.)
--
-- A handler that gives back SP, all registers, the flags and what is pushed, and stores to data alone, does between two instructions no more than a
-- device does: it writes to data, and to the stack below SP. Devices may do that at any time. So nothing is said of when interrupts come, only of
-- whether they may: then a HLT is left.
use Rattle.std.specs.Prelude.{◌≡◌, ◌||◌, ℕ, Bool, true, false, Some}
use Rattle.decode80.specs.{declared.fetching.Fetched.Fetched, declared.instr.Instr.Instr}
use Rattle.decode80.specs.declared.instr.Instr.TheVariants.{Di, Ei, Hlt}
use Rattle.image80.specs.Regions.{Areas}
use Rattle.machine80.specs.{Step.Machine, World.World, Run.world_of}
use Rattle.verify80.specs.Boards.{Disturbs, Executes, fetched_anywhere, respected_pointer, sets_sp}
use Rattle.verify80_states.specs.QuietBoards.{StaysQuiet}

-- whether interrupts may come after an instruction, if that is known before it. (EI lets them in one instruction later.)
abbrev pub enabled_after : Instr → (before : Bool) → Bool
enabled_after Ei before = true
enabled_after Di before = false
enabled_after instr before = before

-- a world with another program counter
abbrev pub with_pc : World → ℕ → World
with_pc w to = record w { machine = record w.machine { cpu = record w.machine.cpu { pc = to } } }

-- a HLT is left: what interrupted it returns behind it
pub record Wakes (w v : World) : Type 0 where
  pub found : Fetched
  pub fetched : fetched_anywhere w.machine.memory w.machine.cpu.pc ≡ Some found
  pub halts : found.instr ≡ Hlt
  pub is : v ≡ with_pc w found.next

-- The worlds of a board whose devices, and whose handlers, leave quiet addresses as they are. Beside each stands whether SP is set, and whether
-- interrupts may come: none may when the run begins.
pub data OnInterruptedBoard (regions : Areas) (quiet : ℕ → Bool) (listed : ℕ → Type 0) (start : Machine) (began : Bool) :
    (set enabled : Bool) → World → Type 0 where
  begins : (set enabled : Bool) (v : World) → v ≡ world_of start → set ≡ began → enabled ≡ false →
      OnInterruptedBoard regions quiet listed start began set enabled v
  disturbed : (set enabled : Bool) (w v : World) → OnInterruptedBoard regions quiet listed start began set enabled w →
      (by : Disturbs regions (respected_pointer regions set w) w v) → StaysQuiet quiet w.machine.memory by.memory →
      OnInterruptedBoard regions quiet listed start began set enabled v
  executed : (before set may enabled : Bool) (w v : World) → OnInterruptedBoard regions quiet listed start began before may w →
      (by : Executes regions listed w v) → set ≡ (before || sets_sp by.found.instr) → enabled ≡ enabled_after by.found.instr may →
      OnInterruptedBoard regions quiet listed start began set enabled v
  woken : (set enabled : Bool) (w v : World) → OnInterruptedBoard regions quiet listed start began set enabled w → enabled ≡ true →
      Wakes w v → OnInterruptedBoard regions quiet listed start began set enabled v
