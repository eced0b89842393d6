-- The lines of a run's instructions on a board, one for each state, in the form of those of a run without a board. (The columns are
-- this project's own.)
use Rattle.std.specs.Prelude.{◌≡◌, ℕ, ◌+◌, ◌<◌, ◌≤◌, Bool, List, [], ◌∷◌, ◌++◌, Option, None, Some, length}
use Rattle.std.specs.Io.KnownBytes.{Appends}
use Rattle.decode80.specs.declared.fetching.Fetched.{Fetched}
use Rattle.decode80.specs.declared.instr.Instr.{Instr}
use Rattle.decode80.specs.declared.instr.Instr.TheVariants.{In, Out}
use Rattle.omf_model.specs.declared.symbols.Public.{Public}
use Rattle.image80.specs.Regions.{Areas}
use Rattle.machine80.specs.Step.{fetch}
use Rattle.board80.specs.declared.line.Line.{Line}
use Rattle.board80.specs.declared.place.Place.TheVariants.{Port}
use Rattle.machine80_board.specs.BoardRun.{BoardState, IsReached}
use Rattle.machine80_board.specs.Exchanges.{answer_at}
use Rattle.loader80_trace.specs.declared.limits.Limits.{Limits}
use Rattle.loader80_trace.specs.declared.limits.Span.{Span}
use Rattle.loader80_trace.specs.Lines.{front_text, instruction_line}
use Rattle.loader80_trace.specs.Traces.{AppendsFront, count_within}
use Rattle.loader80_board.specs.declared.ended.BoardEnded.{BoardEnded}
use Rattle.loader80_board.specs.BoardStates.{AreStates, EndsSo, last_number}

-- the byte that an instruction takes from a port, if the board answers one there, or gives to one
abbrev pub port_byte : List Line → BoardState → Instr → Option ℕ
port_byte lines s (In port) = answer_at lines s.reads s.outputs (Port port)
port_byte lines s (Out port) = Some s.machine.cpu.registers.a
port_byte lines s instr = None

-- the line of what was fetched; each state of a vouched image fetches an instruction
abbrev pub fetched_line : List Line → Option Fetched → BoardState → List ℕ
fetched_line lines None s = []
fetched_line lines (Some found) s = instruction_line found.instr (port_byte lines s found.instr) s.machine.cpu

-- the line of a state's next instruction
abbrev pub state_line : List Line → Areas → BoardState → List ℕ
state_line lines regions s = fetched_line lines (fetch regions s.machine.memory s.machine.cpu.pc) s

-- the same with that of its name before it, and the number of steps that were made before
abbrev pub step_line : List Line → Areas → List Public → (numbered : Bool) → ℕ → BoardState → List ℕ
step_line lines regions publics numbered number s = front_text publics numbered s.machine.cpu.pc number ++ state_line lines regions s

-- the lines of states, the first of which comes after `from` steps
abbrev pub states_lines : List Line → Areas → List Public → (numbered : Bool) → (from : ℕ) → List BoardState → List ℕ
states_lines lines regions publics numbered from [] = []
states_lines lines regions publics numbered from (s ∷ states) =
    step_line lines regions publics numbered from s ++ states_lines lines regions publics numbered (from + 1) states

-- the lines of a span's first states, as many as come within the span and the greatest number of steps, or fewer
pub record AreFirstLinesOf (lines : List Line) (regions : Areas) (start : BoardState) (limits : Limits) (span : Span) (publics : List Public)
    (numbered : Bool) (text : List ℕ) : Type 0 where
  pub states : List BoardState
  pub are_states : AreStates lines regions limits.outputs start span.from states
  pub within : length states ≤ count_within limits.steps span.from span.count
  pub spells : text ≡ states_lines lines regions publics numbered span.from states

-- the lines of a span: those of all states of the run that come within the span and the greatest number of steps
pub record AreLinesOf (lines : List Line) (regions : Areas) (start : BoardState) (limits : Limits) (span : Span) (publics : List Public)
    (numbered : Bool) (text : List ℕ) : Type 0 where
  pub first : AreFirstLinesOf lines regions start limits span publics numbered text
  pub all : (number : ℕ) (s : BoardState) → IsReached lines regions limits.outputs start number s → span.from ≤ number →
      number < span.from + span.count → number ≤ limits.steps → number < span.from + length first.states

-- the lines reached the end of the run, which is this
pub record CameToEnd (lines : List Line) (regions : Areas) (start : BoardState) (limits : Limits) (span : Span) (ended : BoardEnded) : Type 0 where
  pub run : EndsSo lines regions start limits ended
  pub within : last_number ended.end ended.steps < span.from + span.count

-- the lines ran out first: the run lasts longer
pub record RanOut (lines : List Line) (regions : Areas) (start : BoardState) (limits : Limits) (span : Span) : Type 0 where
  pub last : BoardState
  pub reached : IsReached lines regions limits.outputs start (span.from + span.count) last
  pub within : span.from + span.count ≤ limits.steps

abbrev pub IsTraced : List Line → Areas → BoardState → Limits → Span → Option BoardEnded → Type 0
IsTraced lines regions start limits span (Some ended) = CameToEnd lines regions start limits span ended
IsTraced lines regions start limits span None = RanOut lines regions start limits span

-- the lines were written, and reached the end of the run or ran out first
pub record WritesLines (lines : List Line) (regions : Areas) (start : BoardState) (limits : Limits) (span : Span) (publics : List Public)
    (numbered : Bool) (ended : Option BoardEnded) (old new : Option (List ℕ)) : Type 0 where
  pub text : List ℕ
  pub are_lines : AreLinesOf lines regions start limits span publics numbered text
  pub traced : IsTraced lines regions start limits span ended
  pub written : Appends old new text

-- a front part of the lines of a span's first states was written
pub record WritesFront (lines : List Line) (regions : Areas) (start : BoardState) (limits : Limits) (span : Span) (publics : List Public)
    (numbered : Bool) (old new : Option (List ℕ)) : Type 0 where
  pub text : List ℕ
  pub are_lines : AreFirstLinesOf lines regions start limits span publics numbered text
  pub written : AppendsFront old new text
