use Rattle.std.specs.Prelude.{◌≡◌, ◌<◌, length, slice_get, Some}
use Rattle.frames80.specs.Code.{Code}
use Rattle.verify80_walks.specs.declared.point.Point.{Point}
use Rattle.verify80_walks.specs.Backwards.{IsBackwards}
use Rattle.verify80_walks.specs.Reached.{AreReached}
use Rattle.verify80_walks.proofs.ways.way_to.Given as goal

abbrev pub invariant-loop-before : goal.invariant-loop-before
invariant-loop-before l = record {
  there : l.at < length l.points;
  way : (code : Code) (last : Point) → AreReached code l.points l.origins → slice_get l.points l.number ≡ Some last → IsBackwards code l.points l.at l.way.items last;
}

abbrev pub decreases-loop-before : goal.decreases-loop-before
decreases-loop-before l = l.at
