-- Runs of a program among the devices of a board: each step is one of the guarded machine, to which the board's answers have come, as
-- bytes of memory or at the port that IN names. (This project's own.)
use Rattle.std.specs.Prelude.{◌≡◌, ℕ, ◌+◌, ◌-◌, ◌<◌, ◌≤◌, Bool, true, false, not, List, [], ◌∷◌, ◌++◌, All, find, length, map, replicate, slice_get, slice_set, Option, None, Some, is_some}
use Rattle.decode80.specs.declared.fetching.Fetched.{Fetched}
use Rattle.image80.specs.Regions.{Areas, in_data}
use Rattle.image80.specs.Image.{Located, memory_of}
use Rattle.machine80.specs.declared.end.End.{End}
use Rattle.machine80.specs.declared.end.End.TheVariants.{Fetch, InputEnd, OutputRefused}
use Rattle.machine80.specs.Cpu.{started}
use Rattle.machine80.specs.Step.{Machine, Next, Stop, fetch, machine, step_of}
use Rattle.board80.specs.declared.line.Line.{Line}
use Rattle.board80.specs.declared.place.Place.{Place}
use Rattle.board80.specs.declared.place.Place.TheVariants.{Port, Cell}
use Rattle.board80.specs.Board.{gives_device, in_device}
use Rattle.machine80_board.specs.declared.output.Output.{Output}
use Rattle.machine80_board.specs.declared.running.BoardRun.{BoardRun}
use Rattle.machine80_board.specs.declared.end.BoardEnd.{BoardEnd}
use Rattle.machine80_board.specs.declared.end.BoardEnd.TheVariants.{OfMachine, CellEmpty, CellRefused}
use Rattle.machine80_board.specs.Exchanges.{answer_at, outputs_of, places_read}

-- the devices of a board lie in the data of a program
abbrev pub DevicesAreData : List Line → Areas → Type 0
DevicesAreData lines regions = (address : ℕ) → in_device lines address ≡ true → in_data regions address ≡ true

-- the line of this number, counted from 1 with the heading, is the first with a device's address that is no data
pub record IsMisplaced (lines : List Line) (regions : Areas) (number : ℕ) : Type 0 where
  pub before : List Line
  pub line : Line
  pub after : List Line
  pub cut : lines ≡ before ++ line ∷ after
  pub counted : number ≡ length before + 2
  pub right : DevicesAreData before regions
  pub address : ℕ
  pub device : gives_device line address ≡ true
  pub outside : in_data regions address ≡ false

-- a machine at whose ports nothing waits; the places that were read so far; and what was put out
pub record BoardState : Type 0 where
  pub machine : Machine
  pub reads : List Place
  pub outputs : List Output

-- nothing waits at any of the 256 ports
unfoldable pub no_inputs : List (List ℕ)
no_inputs = replicate 256 []

-- a machine at whose ports nothing waits
abbrev pub without_ports : Machine → Machine
without_ports m = machine m.cpu m.memory no_inputs []

-- the state before the first step of an image: nothing was read or put out
abbrev pub board_start : Located → BoardState
board_start image = record {
  machine = machine (started image.start image.regions) (memory_of image.chunks) no_inputs [];
  reads = [];
  outputs = [];
}

-- a machine to which these places have answered these bytes: they are in memory, or wait at the port
abbrev pub answered : List Place → List ℕ → Machine → Machine
answered (Port port ∷ places) (byte ∷ bytes) m = answered places bytes (record m { inputs = slice_set m.inputs port (byte ∷ []) })
answered (Cell address ∷ places) (byte ∷ bytes) m = answered places bytes (record m { memory = slice_set m.memory address byte })
answered [] bytes m = m
answered (place ∷ places) [] m = m

-- an instruction is fetched, and each place that it reads answers a byte
pub record IsAnswered (lines : List Line) (regions : Areas) (s : BoardState) : Type 0 where
  pub found : Fetched
  pub fetched : fetch regions s.machine.memory s.machine.cpu.pc ≡ Some found
  pub bytes : List ℕ
  pub answers : map (answer_at lines s.reads s.outputs) (places_read lines found.instr s.machine.cpu.registers) ≡ map Some bytes
  pub small : All (λ byte. byte < 256) bytes

-- the places that it reads
abbrev pub reads_by : {lines : List Line} {regions : Areas} {s : BoardState} → IsAnswered lines regions s → List Place
reads_by {lines} {regions} {s} by = places_read lines by.found.instr s.machine.cpu.registers

-- the machine then
abbrev pub machine_by : {lines : List Line} {regions : Areas} {s : BoardState} → IsAnswered lines regions s → Machine
machine_by {lines} {regions} {s} by = answered (reads_by by) by.bytes s.machine

-- what it puts out if it leaves a memory
abbrev pub outputs_by : {lines : List Line} {regions : Areas} {s : BoardState} → IsAnswered lines regions s → List ℕ → List Output
outputs_by {lines} {regions} {s} by after = outputs_of lines by.found.instr s.machine.cpu.registers after

-- the first output for which no room is left, if there is one: `most` are taken in all
abbrev pub refused_output : (most : ℕ) → (before new : List Output) → Option Output
refused_output most before new = slice_get new (most - length before)

-- one step from a state to the next: the answers come, the guarded machine makes its step, and what it puts out is taken
pub record Steps (lines : List Line) (regions : Areas) (most : ℕ) (s t : BoardState) : Type 0 where
  pub by : IsAnswered lines regions s
  pub there : Machine
  pub step : step_of regions false (machine_by by) ≡ Next there
  pub room : refused_output most s.outputs (outputs_by by there.memory) ≡ None
  pub is : t ≡ record {
    machine = without_ports there;
    reads = s.reads ++ reads_by by;
    outputs = s.outputs ++ outputs_by by there.memory;
  }

-- the end at a place with no answer left, and at one whose output is refused
abbrev pub empty_end : Place → BoardEnd
empty_end (Port port) = OfMachine (InputEnd port)
empty_end (Cell address) = CellEmpty address

abbrev pub refused_end : Place → BoardEnd
refused_end (Port port) = OfMachine (OutputRefused port)
refused_end (Cell address) = CellRefused address

-- whether a place has no answer left
abbrev pub is_empty_place : List Line → BoardState → Place → Bool
is_empty_place lines s place = not (is_some (answer_at lines s.reads s.outputs place))

-- A run ends at a state: no instruction is fetched; the first place that it reads without an answer is this one; its step, with all
-- answers, is an end of the machine; or it would put out more than is taken.
pub data EndsBy (lines : List Line) (regions : Areas) (most : ℕ) (s : BoardState) (ending : BoardEnd) : Type 0 where
  unfetched : fetch regions s.machine.memory s.machine.cpu.pc ≡ None → ending ≡ OfMachine (Fetch s.machine.cpu.pc) →
      EndsBy lines regions most s ending
  unanswered : (found : Fetched) (place : Place) → fetch regions s.machine.memory s.machine.cpu.pc ≡ Some found →
      find (is_empty_place lines s) (places_read lines found.instr s.machine.cpu.registers) ≡ Some place → ending ≡ empty_end place →
      EndsBy lines regions most s ending
  stopped : (by : IsAnswered lines regions s) (e : End) → step_of regions false (machine_by by) ≡ Stop e → ending ≡ OfMachine e →
      EndsBy lines regions most s ending
  refused : (by : IsAnswered lines regions s) (there : Machine) (output : Output) → step_of regions false (machine_by by) ≡ Next there →
      refused_output most s.outputs (outputs_by by there.memory) ≡ Some output → ending ≡ refused_end output.place →
      EndsBy lines regions most s ending

-- the states of a run, each after a number of steps
pub data IsReached (lines : List Line) (regions : Areas) (most : ℕ) (start : BoardState) : ℕ → BoardState → Type 0 where
  begins : (s : BoardState) → s ≡ start → IsReached lines regions most start 0 s
  goes_on : (steps : ℕ) (s t : BoardState) → IsReached lines regions most start steps s → Steps lines regions most s t →
      IsReached lines regions most start (steps + 1) t

-- a run ends with its step of this number, which leads nowhere and leaves the state before it
pub record EndsAt (lines : List Line) (regions : Areas) (most : ℕ) (start : BoardState) (steps : ℕ) (last : BoardState)
    (ending : BoardEnd) : Type 0 where
  pub before : ℕ
  pub counted : steps ≡ before + 1
  pub reached : IsReached lines regions most start before last
  pub ends : EndsBy lines regions most last ending

-- A run of at most a given number of steps: it makes them all, or it ends before; the step that ends it changes nothing and is
-- counted.
abbrev pub IsBoardRun : List Line → Areas → (most : ℕ) → (start : BoardState) → (limit steps : ℕ) → (last : BoardState) →
    Option BoardEnd → Type 0
IsBoardRun lines regions most start limit steps last None = (steps ≡ limit) × IsReached lines regions most start steps last
IsBoardRun lines regions most start limit steps last (Some ending) =
    (steps ≤ limit) × EndsAt lines regions most start steps last ending

-- what is answered of a run of an image: it is a run on the board, and the processor and the outputs are those of its last state
pub record IsRunOf (lines : List Line) (image : Located) (most limit : ℕ) (run : BoardRun) : Type 0 where
  pub last : BoardState
  pub is : IsBoardRun lines image.regions most (board_start image) limit run.steps last run.end
  pub cpu : run.cpu ≡ last.machine.cpu
  pub outputs : run.outputs.items ≡ last.outputs
