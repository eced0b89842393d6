-- What a machine's numbers are: bytes in the registers, in memory and at the ports. A machine of the definitions is made of numbers; that
-- each stays in its range as the machine runs is said here. (Intel 8080 Microcomputer Systems User's Manual, chapter 2: registers and
-- memory of eight bits.)
use Rattle.std.specs.Prelude.{◌≡◌, ◌<◌, ℕ, Bool, List, Some, All, length}
use Rattle.decode80.specs.{declared.fetching.Fetched.Fetched, Spelling.HasOperandInRange}
use Rattle.image80.specs.Regions.{Areas}
use Rattle.machine80.specs.declared.registers.Registers.{Registers}
use Rattle.machine80.specs.Step.{Machine, Next, fetch, step_of}

abbrev pub IsByte : ℕ → Type 0
IsByte n = n < 256

abbrev pub IsWord : ℕ → Type 0
IsWord n = n < 65536

abbrev pub HasBytes : List ℕ → Type 0
HasBytes bytes = All IsByte bytes

-- each of the seven registers is a byte
pub record AreBytes (r : Registers) : Type 0 where
  pub a : IsByte r.a
  pub b : IsByte r.b
  pub c : IsByte r.c
  pub d : IsByte r.d
  pub e : IsByte r.e
  pub h : IsByte r.h
  pub l : IsByte r.l

-- the registers are bytes, and so are those of memory and those that wait at the ports
pub record HoldsBytes (m : Machine) : Type 0 where
  pub registers : AreBytes m.cpu.registers
  pub memory : HasBytes m.memory
  pub inputs : All HasBytes m.inputs

-- what was fetched has an operand in its range, and an address after it
pub record IsBounded (found : Fetched) : Type 0 where
  pub operand : HasOperandInRange found.instr
  pub next : IsWord found.next

-- a machine that holds bytes holds bytes after each step
abbrev pub BytesStayBytes : Type 0
BytesStayBytes = (regions : Areas) (refused : Bool) (m after : Machine) → HoldsBytes m → step_of regions refused m ≡ Next after →
    HoldsBytes after

-- no step makes memory longer or shorter
abbrev pub MemoryKeepsItsLength : Type 0
MemoryKeepsItsLength = (regions : Areas) (refused : Bool) (m after : Machine) → step_of regions refused m ≡ Next after →
    length after.memory ≡ length m.memory

-- what is fetched from bytes has an operand in its range, and an address after it
abbrev pub FetchedOperandsAreBounded : Type 0
FetchedOperandsAreBounded = (regions : Areas) (memory : List ℕ) (address : ℕ) (found : Fetched) → HasBytes memory →
    fetch regions memory address ≡ Some found → IsBounded found
