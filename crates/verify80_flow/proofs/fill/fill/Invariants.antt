use Rattle.std.proofs.Common.{◌≡◌, ◌+◌, false, cond}
use Rattle.verify80_flow.specs.Known.{IsSmall, Stands, is_exact, AllClosed, weight}
use Rattle.verify80_flow.proofs.fill.fill.Given as goal

abbrev pub invariant-loop-changes : goal.invariant-loop-changes
invariant-loop-changes g l = record {
  small : IsSmall l.table.known;
  stands : Stands (is_exact l.fn.table.known.forgets) (g.C.Code.code l.program) l.table.known;
  closed : l.changes ≡ false → AllClosed (g.C.Code.code l.program) l.table.known;
}

abbrev pub decreases-loop-changes : goal.decreases-loop-changes
decreases-loop-changes g l = weight l.table.known + cond l.changes 1 0
