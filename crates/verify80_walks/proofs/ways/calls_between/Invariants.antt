use Rattle.verify80_walks.specs.Ways.{Lead}
use Rattle.verify80_walks.proofs.ways.calls_between.Given as goal

abbrev pub invariant-loop-number : goal.invariant-loop-number
invariant-loop-number g l = Lead (g.C.Code.code l.program) l.fn.from l.calls.items l.at
