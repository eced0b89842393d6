-- The states of a run on a board, one after another, and how the run ended. (This project's own.)
use Rattle.std.specs.Prelude.{◌≡◌, ℕ, ◌+◌, ◌-◌, ◌<◌, List, [], ◌∷◌, Option, None, Some}
use Rattle.image80.specs.Regions.{Areas}
use Rattle.board80.specs.declared.line.Line.{Line}
use Rattle.machine80_board.specs.declared.end.BoardEnd.{BoardEnd}
use Rattle.machine80_board.specs.BoardRun.{BoardState, EndsAt, IsBoardRun, IsReached}
use Rattle.loader80_trace.specs.declared.limits.Limits.{Limits}
use Rattle.loader80_board.specs.declared.ended.BoardEnded.{BoardEnded}

-- states of a run, one after another: the first is that after `from` steps
abbrev pub AreStates : List Line → Areas → (most : ℕ) → (start : BoardState) → (from : ℕ) → List BoardState → Type 0
AreStates lines regions most start from [] = Unit {0}
AreStates lines regions most start from (s ∷ states) =
    IsReached lines regions most start from s × AreStates lines regions most start (from + 1) states

-- a run of at most a given number of steps ends so
pub record EndsSo (lines : List Line) (regions : Areas) (start : BoardState) (limits : Limits) (ended : BoardEnded) : Type 0 where
  pub last : BoardState
  pub run : IsBoardRun lines regions limits.outputs start limits.steps ended.steps last ended.end
  pub at : ended.at ≡ last.machine.cpu.pc

-- the number of the last state of a run: after the last step, or before the step that ends it
abbrev pub last_number : Option BoardEnd → (steps : ℕ) → ℕ
last_number None steps = steps
last_number (Some e) steps = steps - 1

-- a run has one state after each number of steps, and none after the step that ends it
pub record BoardsDecideRuns : Type 0 where
  pub one_state : (lines : List Line) (regions : Areas) (most : ℕ) (start : BoardState) (steps : ℕ) (s t : BoardState) →
      IsReached lines regions most start steps s → IsReached lines regions most start steps t → s ≡ t
  pub none_after : (lines : List Line) (regions : Areas) (most : ℕ) (start : BoardState) (steps : ℕ) (last : BoardState) (ending : BoardEnd) →
      EndsAt lines regions most start steps last ending → (number : ℕ) (s : BoardState) → IsReached lines regions most start number s →
      number < steps
