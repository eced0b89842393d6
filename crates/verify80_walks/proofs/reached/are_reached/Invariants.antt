use Rattle.std.specs.Prelude.{◌≡◌, ◌<◌, ℕ, slice_get, Some}
use Rattle.verify80_walks.specs.declared.point.Point.{Point}
use Rattle.verify80_walks.specs.declared.search.Origin.{Origin}
use Rattle.verify80_walks.specs.Reached.{Comes}
use Rattle.verify80_walks.proofs.reached.are_reached.Given as goal

abbrev pub invariant-loop-number : goal.invariant-loop-number
invariant-loop-number g l = record {
  comes : (n : ℕ) (point : Point) (origin : Origin) → n < l.number → slice_get l.points n ≡ Some point → slice_get l.origins n ≡ Some origin → Comes (g.C.Code.code l.program) l.points n point origin;
}
