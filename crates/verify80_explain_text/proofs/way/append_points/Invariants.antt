use Rattle.std.proofs.Common.{◌≡◌, ◌++◌, take}
use Rattle.std.specs.List.{flat_map}
use Rattle.verify80_explain_text.specs.Explained.{point_line}
use Rattle.verify80_explain_text.proofs.way.append_points.Given as goal

abbrev pub invariant-loop-point : goal.invariant-loop-point
invariant-loop-point l = l.text.items ≡ l.initial.text.items ++ flat_map (point_line l.code l.publics) (take l.point-index l.points)
