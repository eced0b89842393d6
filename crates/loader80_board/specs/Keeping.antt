-- What the functions of traces and counts promise one another: no public contract cites these. (This project's own.)
use Rattle.std.specs.Prelude.{◌≡◌, ℕ, ◌<◌, Bool, true, false, is_some, List, Option, None, Some}
use Rattle.decode80.specs.declared.instr.Instr.{Instr}
use Rattle.decode80.specs.declared.instr.Instr.TheVariants.{In, Out}
use Rattle.image80.specs.Regions.{Areas}
use Rattle.board80.specs.declared.line.Line.{Line}
use Rattle.machine80_board.specs.declared.rules.Running.{Running}
use Rattle.machine80_board.specs.BoardRun.{BoardState}
use Rattle.machine80_board.specs.Keeping.{HasCome}
use Rattle.loader80_board.specs.declared.ended.BoardEnded.{BoardEnded}
use Rattle.loader80_board.specs.BoardStates.{EndsSo}

-- the byte that an instruction took from a port or gave to one, seen by the accumulator before and after it, and by whether the run
-- goes on
abbrev pub byte_seen : Instr → (before : ℕ) → (goes_on : Bool) → (after : ℕ) → Option ℕ
byte_seen (In port) before true after = Some after
byte_seen (In port) before false after = None
byte_seen (Out port) before goes_on after = Some before
byte_seen instr before goes_on after = None

-- the port of an instruction that reads one is one of 256
abbrev pub ReadsPort : Instr → Type 0
ReadsPort (In port) = port < 256
ReadsPort instr = Unit {0}

-- a run has come this number of steps further, or ended so before
abbrev pub ComesTo : List Line → Areas → (most : ℕ) → (start : BoardState) → (steps : ℕ) → Running → Option BoardEnded → Type 0
ComesTo lines regions most start steps r None = HasCome lines regions most start steps r
ComesTo lines regions most start steps r (Some ended) =
    EndsSo lines regions start (record { steps = steps; outputs = most }) ended × (is_some ended.end ≡ true)
