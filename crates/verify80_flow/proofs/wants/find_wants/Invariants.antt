use Rattle.std.proofs.Common.{◌≡◌, length}
use Rattle.verify80_flow.specs.Survey.{AreWants}
use Rattle.verify80_flow.proofs.wants.find_wants.Given as goal

abbrev pub invariant-loop-point : goal.invariant-loop-point
invariant-loop-point l = (AreWants l.table.known.points l.wants.items l.point) × (length l.wants.items ≡ 65537)
