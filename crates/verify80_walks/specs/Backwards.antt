-- A way gone backwards, from a point to its procedure's start. (This project's own.)
use Rattle.std.specs.Prelude.{◌≡◌, ◌∷◌, ℕ, List, reverse, slice_get, Option, None, Some}
use Rattle.frames80.specs.Code.{Code}
use Rattle.verify80_walks.specs.declared.point.Point.{Point}
use Rattle.verify80_walks.specs.Ways.{Follows, Starts, Way}

-- one point follows from another, by their numbers
pub record IsNext (code : Code) (points : List Point) (from to : ℕ) : Type 0 where
  pub one : Point
  pub other : Point
  pub is_one : slice_get points from ≡ Some one
  pub is_other : slice_get points to ≡ Some other
  pub follows : Follows code one other

-- the point of this number is at the start of its procedure
pub record IsStart (code : Code) (points : List Point) (number : ℕ) : Type 0 where
  pub point : Point
  pub is : slice_get points number ≡ Some point
  pub starts : Starts code point

-- the point before a point, or that it is a start
abbrev pub IsBefore : Code → List Point → ℕ → Option ℕ → Type 0
IsBefore code points number (Some i) = IsNext code points i number
IsBefore code points number None = IsStart code points number

-- a way leads from its procedure's start to a point
pub record IsWayTo (code : Code) (points : List Point) (last : Point) : Type 0 where
  pub first : Point
  pub rest : List Point
  pub is : points ≡ first ∷ rest
  pub starts : Starts code first
  pub way : Way code first rest last

-- a list of points, last first, is a way from the point of a number to the last
pub record IsBackwards (code : Code) (points : List Point) (from : ℕ) (back : List Point) (last : Point) : Type 0 where
  pub first : Point
  pub rest : List Point
  pub is_first : slice_get points from ≡ Some first
  pub is : reverse back ≡ first ∷ rest
  pub way : Way code first rest last
