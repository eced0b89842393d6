use Rattle.std.proofs.Common.{◌≡◌, Ok, false}
use Rattle.verify80_flow.specs.Known.{ManyVisits, AreClosed}
use Rattle.verify80_flow.proofs.table.Table.pass.Given as goal

abbrev pub invariant-loop-point : goal.invariant-loop-point
invariant-loop-point g l = record {
  visits : ManyVisits (g.C.Code.code l.program) l.fn.self.known l.self.known (Ok l.changed);
  closed : l.changed ≡ false → AreClosed (g.C.Code.code l.program) l.self.known l.point;
}
