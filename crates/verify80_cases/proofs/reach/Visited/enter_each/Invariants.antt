use Rattle.std.specs.Prelude.{take}
use Rattle.verify80_cases.specs.Reach.{Enters}
use Rattle.verify80_cases.proofs.reach.Visited.enter_each.Given as goal

abbrev pub invariant-loop-at : goal.invariant-loop-at
invariant-loop-at l = record {
  entered : Enters l.fn.self.marks.items l.fn.self.order.items (take l.at-index l.addresses) l.self.marks.items l.self.order.items;
}
