-- The line of an instruction of a run: address, bytes and text as a listing has them, the byte that it takes from a port or gives
-- to one, and the registers before it. (Texts: 8080 Assembly Language Programming Manual; the columns are this project's.)
use Rattle.std.specs.Prelude.{ℕ, Bool, true, false, List, [], ◌∷◌, ◌++◌, Option, None, Some, length, drop, codes}
use Rattle.std.specs.Fmt.{decimal}
use Rattle.decode80.specs.declared.instr.Instr.{Instr}
use Rattle.decode80.specs.declared.instr.Instr.TheVariants.{In, Out}
use Rattle.decode80.specs.declared.pair.Pair.TheVariants.{Bc, De, Hl}
use Rattle.decode80.specs.declared.fetching.Fetched.{Fetched}
use Rattle.decode80.specs.Spelling.{spelling}
use Rattle.text80.specs.Digits.{byte_text, word_text}
use Rattle.decode80.specs.Text.{text}
use Rattle.image80.specs.Regions.{Areas}
use Rattle.machine80.specs.declared.cpu.Cpu.{Cpu}
use Rattle.machine80.specs.declared.end.End.{End}
use Rattle.machine80.specs.Cpu.{pair_of}
use Rattle.machine80.specs.Flags.{flags_byte}
use Rattle.machine80.specs.Ports.{next_input}
use Rattle.machine80.specs.Step.{Machine, fetch}
use Rattle.machine80.specs.World.{World}
use Rattle.omf_model.specs.declared.symbols.Public.{Public}
use Rattle.image80_text.specs.Listing.{columns}
use Rattle.image80_text.specs.NameText.{label_text}

-- the byte that an instruction takes from a port, if one waits there, or gives to one
abbrev pub port_byte : Instr → Machine → Option ℕ
port_byte (In port) m = next_input m.inputs port
port_byte (Out port) m = Some m.cpu.registers.a
port_byte instr m = None

-- the same, seen by the accumulator before and after an instruction that ended so
abbrev pub byte_seen : Instr → (before : ℕ) → Option End → (after : ℕ) → Option ℕ
byte_seen (In port) before None after = Some after
byte_seen (In port) before (Some e) after = None
byte_seen (Out port) before ending after = Some before
byte_seen instr before ending after = None

-- such a byte behind the port
abbrev pub byte_shown : Option ℕ → List ℕ
byte_shown None = []
byte_shown (Some byte) = 61 ∷ byte_text byte

-- the text of an instruction with its byte, filled with spaces to ten places
abbrev pub filled : List ℕ → List ℕ
filled shown = shown ++ drop (length shown) (codes "          ")

-- a bar, and the registers: A, the flags byte, the pairs and the stack pointer
abbrev pub registers_text : Cpu → List ℕ
registers_text cpu = (codes " | A=" ++ byte_text cpu.registers.a) ++ (codes " F=" ++ byte_text (flags_byte cpu.registers.flags))
    ++ (codes " BC=" ++ word_text (pair_of cpu Bc)) ++ (codes " DE=" ++ word_text (pair_of cpu De))
    ++ (codes " HL=" ++ word_text (pair_of cpu Hl)) ++ (codes " SP=" ++ word_text cpu.sp)

-- the line of an instruction
abbrev pub instruction_line : Instr → Option ℕ → Cpu → List ℕ
instruction_line instr byte cpu =
    columns cpu.pc (spelling instr) ++ filled (text instr ++ byte_shown byte) ++ registers_text cpu ++ 10 ∷ []

-- the line of what was fetched; each world of a vouched image fetches an instruction
abbrev pub fetched_line : Option Fetched → Machine → List ℕ
fetched_line None m = []
fetched_line (Some found) m = instruction_line found.instr (port_byte found.instr m) m.cpu

-- the line of a machine's next instruction
abbrev pub machine_line : Areas → Machine → List ℕ
machine_line regions m = fetched_line (fetch regions m.memory m.cpu.pc) m

-- the number of steps that were made before, if lines are numbered
abbrev pub number_text : (numbered : Bool) → ℕ → List ℕ
number_text true number = decimal number ++ 32 ∷ []
number_text false number = []

-- what stands before an instruction: the line of its name, if its address has one, and its number
abbrev pub front_text : List Public → (numbered : Bool) → (at number : ℕ) → List ℕ
front_text publics numbered at number = label_text publics at ++ number_text numbered number

-- the line of a world's next instruction, with that of its name before it; none if the run has ended before
abbrev pub world_line : Areas → List Public → (numbered : Bool) → ℕ → Option World → List ℕ
world_line regions publics numbered number None = []
world_line regions publics numbered number (Some w) =
    front_text publics numbered w.machine.cpu.pc number ++ machine_line regions w.machine
