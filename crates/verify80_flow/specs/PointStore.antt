-- How the points are stored: each with the number of its frame, and a number kept of the address of each. (This project's own.)
use Rattle.std.specs.Prelude.{◌≡◌, ◌<◌, ℕ, List, map, Some, length, slice_get}
use Rattle.frames80.specs.StackFrame.{StackFrame}
use Rattle.frames80_interned.specs.Frames.{frame_at}
use Rattle.frames80.specs.declared.procedure.Procedure.{Procedure}
use Rattle.verify80_flow.specs.declared.points.StoredPoint.{StoredPoint}
use Rattle.verify80_flow.specs.Points.{Point}
use Rattle.frames80.specs.declared.point_numbers.PointNumbers.{PointNumbers}
use Rattle.frames80.specs.PointNumbers.{number_at}

-- the point that is stored
abbrev pub point_of : List StackFrame → StoredPoint → Point
point_of frames stored = record { procedure = stored.procedure; at = stored.at; frame = frame_at frames stored.frame }

abbrev pub points_of : List StackFrame → List StoredPoint → List Point
points_of frames stored = map (point_of frames) stored

-- at i that address of that procedure is stored
pub record IsStoredAt (stored : List StoredPoint) (procedure : Procedure) (at i : ℕ) : Type 0 where
  pub point : StoredPoint
  pub stands : slice_get stored i ≡ Some point
  pub in_procedure : point.procedure ≡ procedure
  pub at_address : point.at ≡ at

-- each point that is stored has a frame, and the number that is kept of its address is its own
pub record AreStored (frames : List StackFrame) (stored : List StoredPoint) (numbers : PointNumbers) : Type 0 where
  pub framed : (i : ℕ) (point : StoredPoint) → slice_get stored i ≡ Some point → point.frame < length frames
  pub numbered : (i : ℕ) (point : StoredPoint) → slice_get stored i ≡ Some point →
      number_at numbers point.procedure point.at ≡ Some i
  pub stands : (procedure : Procedure) (at i : ℕ) → number_at numbers procedure at ≡ Some i → IsStoredAt stored procedure at i
