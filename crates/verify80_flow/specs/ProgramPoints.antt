-- The points that the walks of a program reach: what is kept of a table that is filled. (This project's own.)
use Rattle.std.specs.Prelude.{◌≡◌, ◌<◌, ◌+◌, ◌*◌, ℕ, List, All, AllPairs, Contains, IsPermutation, length, map}
use Rattle.std.specs.List.Sorted.{IsNonDecreasingBy}
use Rattle.frames80.specs.StackFrame.{StackFrame}
use Rattle.frames80.specs.declared.procedure.Procedure.{Procedure}
use Rattle.frames80.specs.Procedures.{slot_of}
use Rattle.frames80.specs.Code.{Code}
use Rattle.verify80_flow.specs.declared.report.ProgramPoint.{ProgramPoint}
use Rattle.verify80_flow.specs.Walks.{Walk}
use Rattle.verify80_flow.specs.Points.{Point}
use Rattle.verify80_flow.specs.Known.{Known}

-- where a point stands in order: by procedure, the main program first, then by entry, and by address
abbrev pub rank_of : ProgramPoint → ℕ
rank_of point = slot_of point.procedure * 65536 + point.at

-- a walk is at the point with these counts
pub record IsReachedPoint (code : Code) (point : ProgramPoint) : Type 0 where
  pub frame : StackFrame
  pub walk : Walk code point.procedure point.at frame
  pub words : point.words ≡ length frame.words
  pub taken : point.taken ≡ frame.taken

-- the point of a walk is in the list, with the counts of the walk's frame
pub record HasReachedPoint (points : List ProgramPoint) (p : Procedure) (place : ℕ) (f : StackFrame) : Type 0 where
  pub point : ProgramPoint
  pub there : Contains points point
  pub procedure : point.procedure ≡ p
  pub at : point.at ≡ place
  pub words : point.words ≡ length f.words
  pub taken : point.taken ≡ f.taken

-- exactly the points of walks, one for an address of a procedure, in order
pub record ArePoints (code : Code) (points : List ProgramPoint) : Type 0 where
  pub each : All (IsReachedPoint code) points
  pub all : (p : Procedure) (at : ℕ) (f : StackFrame) → Walk code p at f → HasReachedPoint points p at f
  pub in_order : AllPairs (λ (a b : ProgramPoint). rank_of a < rank_of b) points
  pub addresses : All (λ (point : ProgramPoint). point.at < 65536) points

-- what is kept of a point of a table
abbrev pub program_point : Point → ProgramPoint
program_point point =
    record { procedure = point.procedure; at = point.at; words = length point.frame.words; taken = point.frame.taken }

-- the points of a table, in order
pub record AreOfTable (known : Known) (points : List ProgramPoint) : Type 0 where
  pub same : IsPermutation (map program_point known.points) points
  pub in_order : IsNonDecreasingBy rank_of points
