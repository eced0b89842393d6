-- What a program reads of a board's devices and puts out at them, and what they answer. (IN, OUT and memory-mapped devices: Intel 8080
-- Microcomputer Systems User's Manual, chapters 2 and 4. The lines of a board are this project's own.)
use Rattle.std.specs.Prelude.{ℕ, ◌-◌, ◌==◌, Bool, false, ◌&&◌, List, [], ◌∷◌, ◌++◌, length, map, filter, Option, None, Some, is_some, slice_get, slice_index, if◌then◌else◌}
use Rattle.decode80.specs.declared.instr.Instr.{Instr}
use Rattle.decode80.specs.declared.instr.Instr.TheVariants.{Load, InrMemory, DcrMemory, Operate, Ldax, Lda, Lhld, In, Out}
use Rattle.decode80.specs.declared.operation.Operand.{Operand}
use Rattle.decode80.specs.declared.operation.Operand.TheVariants.{Register as InRegister, Memory as InMemory, Immediate}
use Rattle.decode80.specs.Fetch.{ahead, direct_bytes}
use Rattle.machine80.specs.declared.registers.Registers.{Registers}
use Rattle.machine80.specs.Cpu.{hl_of, index_pair_of}
use Rattle.machine80.specs.Effects.{pointed_bytes}
use Rattle.board80.specs.declared.answers.Answers.{Answers}
use Rattle.board80.specs.declared.answers.Answers.TheVariants.{Listed, By}
use Rattle.board80.specs.declared.line.Line.{Line}
use Rattle.board80.specs.declared.line.Line.TheVariants.{Memory, Interrupt, Reads}
use Rattle.board80.specs.declared.place.Place.{Place}
use Rattle.board80.specs.declared.place.Place.TheVariants.{Port, Cell}
use Rattle.board80.specs.Answers.{byte_at, answer_to_last}
use Rattle.board80.specs.Board.{in_device}
use Rattle.machine80_board.specs.declared.output.Output.{Output}

-- whether two places are the same one
abbrev pub is_same : Place → Place → Bool
is_same (Port one) (Port other) = one == other
is_same (Cell one) (Cell other) = one == other
is_same (Port one) (Cell other) = false
is_same (Cell one) (Port other) = false

-- the answers of a place: those of the first line that says them, if one does
abbrev pub answers_at : List Line → Place → Option Answers
answers_at [] place = None
answers_at (Memory kind range ∷ lines) place = answers_at lines place
answers_at (Interrupt address ∷ lines) place = answers_at lines place
answers_at (Reads here answers ∷ lines) place = if is_same here place then Some answers else answers_at lines place

-- how often a place was read, among the places that were
abbrev pub times_read : Place → List Place → ℕ
times_read place reads = length (filter (is_same place) reads)

-- the last byte that was put out at a place, if one was
abbrev pub bytes_put : Place → List Output → List ℕ
bytes_put place outputs = map (λ output. output.byte) (filter (λ output. is_same place output.place) outputs)

abbrev pub last_put : Place → List Output → Option ℕ
last_put place outputs = slice_get (bytes_put place outputs) (length (bytes_put place outputs) - 1)

-- what answers give after these reads of their place and these outputs: the next byte of a list, None past its end, or what a table has
-- for the last byte that was put out at its source
abbrev pub answer_of : Option Answers → (times : ℕ) → List Output → Option ℕ
answer_of None times outputs = None
answer_of (Some (Listed list)) times outputs = byte_at list times
answer_of (Some (By table)) times outputs = Some (answer_to_last table (last_put table.source outputs))

-- what a board answers at a place; None if nothing is left, or nothing is said of the place
abbrev pub answer_at : List Line → (reads : List Place) → List Output → Place → Option ℕ
answer_at lines reads outputs place = answer_of (answers_at lines place) (times_read place reads) outputs

-- the addresses that an instruction loads data from, in order; POP, RET and XTHL load from the stack alone
abbrev pub loads_of : Operand → Registers → List ℕ
loads_of (InRegister register) r = []
loads_of InMemory r = hl_of r ∷ []
loads_of (Immediate byte) r = []

abbrev pub loads : Instr → Registers → List ℕ
loads (Load to) r = hl_of r ∷ []
loads InrMemory r = hl_of r ∷ []
loads DcrMemory r = hl_of r ∷ []
loads (Operate operation operand) r = loads_of operand r
loads (Ldax pair) r = index_pair_of r pair ∷ []
loads (Lda address) r = address ∷ []
loads (Lhld address) r = address ∷ ahead address 1 ∷ []
loads _ r = []

-- whether an address is a cell of a device that has answers
abbrev pub is_answered : List Line → ℕ → Bool
is_answered lines address = in_device lines address && is_some (answers_at lines (Cell address))

-- the places of a board that an instruction reads, in order: the port that IN names, or cells with answers that it loads from
abbrev pub places_read : List Line → Instr → Registers → List Place
places_read lines (In port) r = Port port ∷ []
places_read lines instr r = map (λ address. Cell address) (filter (is_answered lines) (loads instr r))

-- what an instruction puts out, in order: the accumulator at the port that OUT names, or the bytes that it stores at the cells of
-- devices, which it leaves in memory
abbrev pub outputs_of : List Line → Instr → Registers → (after : List ℕ) → List Output
outputs_of lines (Out port) r after = record { place = Port port; byte = r.a } ∷ []
outputs_of lines instr r after = map (λ address. record { place = Cell address; byte = slice_index after address })
    (filter (in_device lines) (direct_bytes instr ++ pointed_bytes instr r))
