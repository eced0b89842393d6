-- Where the parts of a picture are: within it.
-- (SVG 2, 8 Coordinate systems: a picture has units of its own.)
use Rattle.std.specs.Prelude.{◌<◌, ◌≤◌, ◌+◌}
use Rattle.page80.specs.declared.picture.Area.{Area}
use Rattle.page80.specs.declared.picture.Frame.{Frame}
use Rattle.page80.specs.declared.picture.Point.{Point}

-- four digits are enough for it
pub record IsSmall (area : Area) : Type 0 where
  pub x : area.x < 10000
  pub y : area.y < 10000
  pub width : area.width < 10000
  pub height : area.height < 10000

pub record IsSmallPoint (point : Point) : Type 0 where
  pub x : point.x < 10000
  pub y : point.y < 10000

-- they are enough for each of its points
pub record IsFrame (frame : Frame) : Type 0 where
  pub width : frame.width < 10000
  pub height : frame.height < 10000

pub record IsPoint (frame : Frame) (point : Point) : Type 0 where
  pub x : point.x ≤ frame.width
  pub y : point.y ≤ frame.height

pub record IsWithin (frame : Frame) (area : Area) : Type 0 where
  pub x : area.x + area.width ≤ frame.width
  pub y : area.y + area.height ≤ frame.height
