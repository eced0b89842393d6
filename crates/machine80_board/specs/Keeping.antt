-- What the functions of a run keep of the board's devices. (This project's own.)
use Rattle.std.specs.Prelude.{◌≡◌, ℕ, ◌<◌, Bool, true, false, List, [], ◌∷◌, ◌++◌, All, filter, find, map, slice_index, slice_index_or, Option, None, Some, Result, Ok, Err}
use Rattle.decode80.specs.declared.instr.Instr.{Instr}
use Rattle.decode80.specs.declared.instr.Instr.TheVariants.{In, Out}
use Rattle.decode80.specs.Fetch.{ahead}
use Rattle.image80.specs.Regions.{Areas, AreRegions}
use Rattle.image80.specs.Image.{Located}
use Rattle.machine80.specs.Step.{machine}
use Rattle.board80.specs.declared.answers.Answers.TheVariants.{Listed}
use Rattle.machine80_board.specs.declared.cursor.Cursor.{Cursor}
use Rattle.board80.specs.declared.line.Line.{Line}
use Rattle.board80.specs.declared.place.Place.{Place}
use Rattle.board80.specs.declared.place.Place.TheVariants.{Cell}
use Rattle.board80.specs.Board.{IsPlace, in_device}
use Rattle.board80.specs.ByteList.{ListedBytes}
use Rattle.machine80_board.specs.Cursor.{IsAt}
use Rattle.machine80_board.specs.declared.answering.CellAnswer.{CellAnswer}
use Rattle.machine80_board.specs.declared.answering.CellAnswer.TheVariants.{Memory, Answer, Empty}
use Rattle.machine80_board.specs.declared.cells.Cells.{Cells}
use Rattle.machine80_board.specs.declared.cells.Cells.TheVariants.{Nowhere, Byte, Word}
use Rattle.machine80_board.specs.declared.end.BoardEnd.{BoardEnd}
use Rattle.machine80_board.specs.declared.output.Output.{Output}
use Rattle.machine80_board.specs.declared.rules.Rules.{Rules}
use Rattle.machine80_board.specs.declared.rules.Running.{Running}
use Rattle.machine80_board.specs.declared.running.Stopped.{Stopped}
use Rattle.machine80_board.specs.BoardRun.{BoardState, DevicesAreData, EndsBy, IsBoardRun, IsReached, Steps, answered, board_start, is_empty_place, no_inputs}
use Rattle.machine80_board.specs.Slots.{HaveSlots, slot_of}
use Rattle.machine80_board.specs.Exchanges.{answer_at, answers_at, is_answered, last_put, times_read}

-- the cursors of slots have given as many bytes of lists as their places were read
pub record HaveGiven (lines : List Line) (cursors : List Cursor) (reads : List Place) : Type 0 where
  pub given : (place : Place) (list : ListedBytes) → IsPlace place → answers_at lines place ≡ Some (Listed list) →
      (d : Cursor) → IsAt list (slice_index_or cursors (slot_of place) d) (times_read place reads)

-- the last bytes of slots are those that were put out at their places
pub record HaveSeen (last : List (Option ℕ)) (outputs : List Output) : Type 0 where
  pub seen : (place : Place) → IsPlace place → slice_index_or last (slot_of place) None ≡ last_put place outputs

-- the addresses of cells
abbrev pub addresses_of : Cells → List ℕ
addresses_of Nowhere = []
addresses_of (Byte address) = address ∷ []
addresses_of (Word address) = address ∷ ahead address 1 ∷ []

-- the cells with answers among addresses, as places
abbrev pub answering_cells : List Line → List ℕ → List Place
answering_cells lines addresses = map (λ address. Cell address) (filter (is_answered lines) addresses)

-- what a cell answered: nothing, as memory does; a byte; or it has none left
abbrev pub IsCellAnswer : List Line → (address : ℕ) → List Cursor → List (Option ℕ) → List Cursor → CellAnswer → Type 0
IsCellAnswer lines address old last new Memory = (is_answered lines address ≡ false) × (new ≡ old)
IsCellAnswer lines address old last new (Answer byte) = (is_answered lines address ≡ true) × ((byte < 256) × (
    (reads : List Place) (outputs : List Output) → HaveGiven lines old reads → HaveSeen last outputs →
    (answer_at lines reads outputs (Cell address) ≡ Some byte) × HaveGiven lines new (reads ++ Cell address ∷ [])))
IsCellAnswer lines address old last new Empty = (is_answered lines address ≡ true) × (
    (reads : List Place) (outputs : List Output) → HaveGiven lines old reads → HaveSeen last outputs →
    answer_at lines reads outputs (Cell address) ≡ None)

-- how far a run has come is this state
pub record IsNow (lines : List Line) (s : BoardState) (r : Running) : Type 0 where
  pub is : s.machine ≡ machine r.cpu r.bus no_inputs []
  pub outputs : s.outputs ≡ r.outputs.items
  pub given : HaveGiven lines r.cursors.items s.reads
  pub seen : HaveSeen r.last.items s.outputs

-- its tables have all slots
pub record AreWhole (r : Running) : Type 0 where
  pub cursors : HaveSlots r.cursors.items
  pub last : HaveSlots r.last.items

-- cells have answered, and their bytes are in memory
pub record AnswersCells (lines : List Line) (places : List Place) (s : BoardState) (old new : Running) : Type 0 where
  pub bytes : List ℕ
  pub answers : map (answer_at lines s.reads s.outputs) places ≡ map Some bytes
  pub small : All (λ byte. byte < 256) bytes
  pub is : answered places bytes s.machine ≡ machine new.cpu new.bus no_inputs []
  pub given : HaveGiven lines new.cursors.items (s.reads ++ places)

-- the run hasn't come further, as far as is seen of it
pub record IsSame (old new : Running) : Type 0 where
  pub cpu : new.cpu ≡ old.cpu
  pub last : new.last.items ≡ old.last.items
  pub outputs : new.outputs.items ≡ old.outputs.items

-- the cells have answered, or this one has no byte left
abbrev pub HaveAnswered : {A : Type 0} → List Line → List Place → BoardState → (old new : Running) → Result A ℕ → Type 0
HaveAnswered lines places s old new (Ok u) = AnswersCells lines places s old new
HaveAnswered lines places s old new (Err address) = find (is_empty_place lines s) places ≡ Some (Cell address)

-- one step leads to a state, or ends the run
pub record LeadsOn (lines : List Line) (regions : Areas) (most : ℕ) (s : BoardState) (new : Running) : Type 0 where
  pub next : BoardState
  pub steps : Steps lines regions most s next
  pub now : IsNow lines next new

pub record StopsAt (lines : List Line) (regions : Areas) (most : ℕ) (s : BoardState) (old new : Running) (ending : BoardEnd) : Type 0 where
  pub ends : EndsBy lines regions most s ending
  pub cpu : new.cpu ≡ old.cpu
  pub outputs : new.outputs.items ≡ old.outputs.items

abbrev pub Turned : List Line → Areas → (most : ℕ) → BoardState → (old new : Running) → Option BoardEnd → Type 0
Turned lines regions most s old new None = LeadsOn lines regions most s new
Turned lines regions most s old new (Some ending) = StopsAt lines regions most s old new ending

-- what a run goes by is so
pub record AreRight (rules : Rules) : Type 0 where
  pub in_data : DevicesAreData rules.lines.now rules.regions.now
  pub regions : AreRegions rules.regions.now

-- an instruction is neither IN nor OUT
abbrev pub is_apart : Instr → Bool
is_apart (In port) = false
is_apart (Out port) = false
is_apart _ = true

-- the bytes at devices' cells among addresses, as outputs
abbrev pub outputs_among : List Line → List ℕ → (memory : List ℕ) → List Output
outputs_among lines addresses memory = map (λ address. record { place = Cell address; byte = slice_index memory address }) (filter (in_device lines) addresses)

-- processor, memory and reads are as they were
pub record IsSameMachine (old new : Running) : Type 0 where
  pub cpu : new.cpu ≡ old.cpu
  pub bus : new.bus ≡ old.bus
  pub cursors : new.cursors.items ≡ old.cursors.items

-- a run before its first step
abbrev pub StartsAt : Located → Running → Type 0
StartsAt image r = (lines : List Line) → IsNow lines (board_start image) r

-- a run from a state has ended so, or was stopped
pub record EndsFrom (lines : List Line) (regions : Areas) (most : ℕ) (start : BoardState) (limit : ℕ) (stopped : Stopped) (r : Running) : Type 0 where
  pub last : BoardState
  pub is : IsBoardRun lines regions most start limit stopped.steps last stopped.end
  pub cpu : r.cpu ≡ last.machine.cpu
  pub outputs : r.outputs.items ≡ last.outputs

-- a run from a state has come so far
pub record HasCome (lines : List Line) (regions : Areas) (most : ℕ) (start : BoardState) (made : ℕ) (r : Running) : Type 0 where
  pub state : BoardState
  pub reached : IsReached lines regions most start made state
  pub now : IsNow lines state r
