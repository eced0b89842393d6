use Rattle.std.proofs.Common.{◌≡◌, length}
use Rattle.verify80_flow.specs.Survey.{AreMarked}
use Rattle.verify80_flow.proofs.rows.mark_procedures.Given as goal

abbrev pub invariant-loop-point : goal.invariant-loop-point
invariant-loop-point l = (AreMarked l.table.known.points l.marks.items l.point) × (length l.marks.items ≡ 65537)
