-- The points that are known, each with what is known of its frame, in order of first sight. (This project's own.)
use Rattle.std.specs.Prelude.{◌≡◌, ◌<◌, ℕ, Bool, ◌&&◌, nat_eq, List, Some, slice_get, slice_set}
use Rattle.frames80.specs.StackFrame.{StackFrame}
use Rattle.frames80.specs.declared.procedure.Procedure.{Procedure}
use Rattle.frames80.specs.PointNumbers.{same_procedure}

-- a point: an address of a procedure, and a frame there
pub record Point : Type 0 where
  pub procedure : Procedure
  pub at : ℕ
  pub frame : StackFrame

-- what is seen of the points that are stored: the points, and the frames by number
pub record StoredPoints : Type 0 where
  pub points : List Point
  pub frames : List StackFrame

-- whether a point is that address of that procedure
abbrev pub is_at : Procedure → ℕ → Point → Bool
is_at procedure at point = same_procedure procedure point.procedure && nat_eq at point.at

-- a point with another frame
abbrev pub with_frame : StackFrame → Point → Point
with_frame frame point = record point { frame = frame }

-- no address of a procedure stands twice
pub record AreApart (points : List Point) : Type 0 where
  pub apart : (i j : ℕ) (a b : Point) → slice_get points i ≡ Some a → slice_get points j ≡ Some b → a.procedure ≡ b.procedure →
      a.at ≡ b.at → i ≡ j

-- each address is one of memory
pub record AreAddresses (points : List Point) : Type 0 where
  pub within : (i : ℕ) (point : Point) → slice_get points i ≡ Some point → point.at < 65536

-- at i stands the point of that address of that procedure
pub record IsPointAt (points : List Point) (procedure : Procedure) (at i : ℕ) : Type 0 where
  pub point : Point
  pub stands : slice_get points i ≡ Some point
  pub in_procedure : point.procedure ≡ procedure
  pub at_address : point.at ≡ at

-- no point of that address of that procedure is there
pub record IsNoPoint (points : List Point) (procedure : Procedure) (at : ℕ) : Type 0 where
  pub none : (i : ℕ) (point : Point) → slice_get points i ≡ Some point → point.procedure ≡ procedure → point.at ≡ at → ⊥

-- the point at i has another frame, and nothing else has changed
pub record Reframes (old new : List Point) (i : ℕ) (frame : StackFrame) : Type 0 where
  pub reframed : (point : Point) → slice_get old i ≡ Some point → new ≡ slice_set old i (with_frame frame point)
