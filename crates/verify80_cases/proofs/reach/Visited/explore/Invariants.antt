use Rattle.std.specs.Prelude.{◌-◌}
use Rattle.verify80_cases.proofs.ReachLemmas.{IsGoing}
use Rattle.verify80_cases.proofs.reach.Visited.explore.Given as goal

abbrev pub invariant-loop-number : goal.invariant-loop-number
invariant-loop-number l = record {
  going : IsGoing l.code l.fn.self.marks.items l.fn.self.order.items l.fn.at l.self.marks.items l.self.order.items l.number;
}

-- (a Vec has fewer elements)
abbrev pub decreases-loop-number : goal.decreases-loop-number
decreases-loop-number l = 9223372036854775808 - l.number
