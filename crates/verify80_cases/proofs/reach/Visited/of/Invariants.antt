use Rattle.std.specs.Prelude.{◌∷◌, take}
use Rattle.verify80_cases.specs.Reach.{IsDone}
use Rattle.verify80_cases.proofs.reach.Visited.of.Given as goal

abbrev pub invariant-loop-entry : goal.invariant-loop-entry
invariant-loop-entry l = record {
  done : IsDone l.code (l.code.start ∷ take l.entry-index l.entries) l.visited.marks.items l.visited.order.items;
}
