use Rattle.std.specs.Prelude.{Ok}
use Rattle.verify80_flow.specs.Known.{ManyVisits}
use Rattle.verify80_flow.proofs.table.Table.drain.Given as goal

abbrev pub invariant-loop : goal.invariant-loop
invariant-loop g l = ManyVisits (g.C.Code.code l.program) l.fn.self.known l.self.known (Ok l.changed)
