-- How often a run on a board begins an instruction at each address. (This project's own.)
use Rattle.std.specs.Prelude.{◌≡◌, ℕ, ◌<◌, ◌==◌, Bool, List, length, filter, slice_index}
use Rattle.image80.specs.Image.{Located}
use Rattle.image80.specs.Regions.{Areas}
use Rattle.board80.specs.declared.line.Line.{Line}
use Rattle.machine80_board.specs.BoardRun.{BoardState, board_start}
use Rattle.loader80_trace.specs.declared.limits.Limits.{Limits}
use Rattle.loader80_board.specs.declared.counting.BoardCounts.{BoardCounts}
use Rattle.loader80_board.specs.BoardStates.{AreStates, EndsSo}

-- whether the next step from a state begins at an address
abbrev pub begins_at : ℕ → BoardState → Bool
begins_at address s = s.machine.cpu.pc == address

-- for each of the 65536 addresses, how many of a run's first steps begin there: those from each of its first states
pub record CountsSteps (lines : List Line) (regions : Areas) (most : ℕ) (start : BoardState) (steps : ℕ) (counts : List ℕ) : Type 0 where
  pub states : List BoardState
  pub are_states : AreStates lines regions most start 0 states
  pub all : length states ≡ steps
  pub whole : length counts ≡ 65536
  pub each : (address : ℕ) → address < 65536 → slice_index counts address ≡ length (filter (begins_at address) states)

-- these are the counts of a run, and how it ended
pub record IsCounted (lines : List Line) (image : Located) (limits : Limits) (counts : BoardCounts) : Type 0 where
  pub ended : EndsSo lines image.regions (board_start image) limits counts.ended
  pub counted : CountsSteps lines image.regions limits.outputs (board_start image) counts.ended.steps counts.steps.items
