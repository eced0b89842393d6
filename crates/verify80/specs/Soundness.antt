-- What the verifier's tables say of runs. (This project's own.)
use Rattle.std.specs.Prelude.{ℕ, List, ◌≤◌}
use Rattle.image80.specs.Regions.{AreRegions}
use Rattle.image80.specs.Image.{Located}
use Rattle.machine80.specs.World.{NeverGoesWrong, world_at_start}
use Rattle.verify80_flow.specs.declared.report.ProcRow.{ProcRow}
use Rattle.verify80_flow.specs.Accepted.{IsAccepted}
use Rattle.verify80_flow.specs.Fitting.{IsFitted}
use Rattle.verify80.specs.Looking.{code_of}
use Rattle.verify80.specs.Starts.{IsStart, NeverGoesWrongFromPowerOn}
use Rattle.verify80.specs.Reached.{StaysOnWalks}

-- an image never goes wrong, within a number of bytes of stack, if a table of frames fits it with that number and the stack
-- has them
abbrev pub FittedImagesNeverGoWrong : Type 0
FittedImagesNeverGoWrong = (image : Located) (bytes : ℕ) → AreRegions image.regions → IsFitted (code_of image) bytes →
    bytes ≤ image.regions.stack.length → NeverGoesWrong image bytes

-- nor does it from power-on
abbrev pub FittedImagesNeverGoWrongFromPowerOn : Type 0
FittedImagesNeverGoWrongFromPowerOn = (image : Located) (bytes : ℕ) → AreRegions image.regions → IsFitted (code_of image) bytes →
    bytes ≤ image.regions.stack.length → NeverGoesWrongFromPowerOn image bytes

-- the start of a run of the watched machine, if all other memory and the registers are 0, is one from power-on
abbrev pub RunsBeginFromPowerOn : Type 0
RunsBeginFromPowerOn = (image : Located) (inputs : List (List ℕ)) (outputs : List (ℕ × ℕ)) →
    IsStart image (world_at_start image inputs outputs).machine

-- the runs of an image that is accepted stay on walks
abbrev pub AcceptedImagesStayOnWalks : Type 0
AcceptedImagesStayOnWalks = (image : Located) (listed : List ProcRow) (bytes : ℕ) → AreRegions image.regions →
    IsAccepted (code_of image) listed bytes → StaysOnWalks image
