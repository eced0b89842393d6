-- A run among the devices of a board is one on a board as verify80 defines it. (This project's own.)
use Rattle.std.specs.Prelude.{◌≡◌, ℕ, ◌<◌, ◌≤◌, Bool, true, false, List, All}
use Rattle.image80.specs.Regions.{AreRegions}
use Rattle.image80.specs.Image.{Located, memory_of}
use Rattle.machine80.specs.World.{World}
use Rattle.verify80_flow.specs.Fitting.{IsFitted}
use Rattle.verify80.specs.Looking.{code_of}
use Rattle.verify80.specs.Boards.{Anywhere, KeepsPromise, OnBoard}
use Rattle.verify80_states.specs.{Bytes.HoldsBytes, QuietBoards.OnQuietBoard}
use Rattle.board80.specs.{declared.line.Line.Line, Board.in_device}
use Rattle.machine80_board.specs.BoardRun.{BoardState, DevicesAreData, IsReached, board_start}

-- a state's machine, with some open calls, is a world on the image's board that keeps the promise
pub record StandsOnBoard (image : Located) (bytes : ℕ) (s : BoardState) : Type 0 where
  pub world : World
  pub same : world.machine ≡ s.machine
  pub on : OnBoard image.regions Anywhere (board_start image).machine true true world
  pub promise : KeepsPromise image Anywhere bytes world

-- each state of each run among devices in data is such a one
abbrev pub RunsStandOnBoards : Located → (bytes : ℕ) → Type 0
RunsStandOnBoards image bytes = (lines : List Line) → DevicesAreData lines image.regions → (most steps : ℕ) (s : BoardState) →
    IsReached lines image.regions most (board_start image) steps s → StandsOnBoard image bytes s

-- so are they if a table of frames fits the image
abbrev pub RunsAreOnBoards : Type 0
RunsAreOnBoards = (image : Located) (bytes : ℕ) → AreRegions image.regions → IsFitted (code_of image) bytes →
    bytes ≤ image.regions.stack.length → All (λ byte. byte < 256) (memory_of image.chunks) → RunsStandOnBoards image bytes

-- the devices of a board leave quiet addresses alone
abbrev pub LeavesQuiet : List Line → (quiet : ℕ → Bool) → Type 0
LeavesQuiet lines quiet = (address : ℕ) → in_device lines address ≡ true → quiet address ≡ false

-- a state's machine, with some open calls, is a world on the image's quiet board
pub record StandsOnQuietBoard (image : Located) (quiet : ℕ → Bool) (s : BoardState) : Type 0 where
  pub world : World
  pub same : world.machine ≡ s.machine
  pub on : OnQuietBoard image.regions quiet Anywhere (board_start image).machine true true world

-- each state of a run among devices in data that isn't quiet is such a one, whatever the image
abbrev pub RunsAreOnQuietBoards : Type 0
RunsAreOnQuietBoards = (image : Located) → AreRegions image.regions → All (λ byte. byte < 256) (memory_of image.chunks) →
    (lines : List Line) → DevicesAreData lines image.regions → (quiet : ℕ → Bool) → LeavesQuiet lines quiet →
    (most steps : ℕ) (s : BoardState) → IsReached lines image.regions most (board_start image) steps s → StandsOnQuietBoard image quiet s

-- before its first step it holds bytes, if the image's memory does
abbrev pub StartsHoldBytes : Type 0
StartsHoldBytes = (image : Located) → All (λ byte. byte < 256) (memory_of image.chunks) → HoldsBytes (board_start image).machine
