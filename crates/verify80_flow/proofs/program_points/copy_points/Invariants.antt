use Rattle.std.proofs.Common.{◌≡◌, map, take}
use Rattle.verify80_flow.specs.ProgramPoints.{program_point}
use Rattle.verify80_flow.proofs.program_points.copy_points.Given as goal

abbrev pub invariant-loop-i : goal.invariant-loop-i
invariant-loop-i l = l.points.items ≡ map program_point (take l.i l.table.known.points)
