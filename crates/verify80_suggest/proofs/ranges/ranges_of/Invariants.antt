use Rattle.std.specs.Prelude.{◌-◌, ◌≤◌}
use Rattle.verify80_cases.specs.Marks.{marked}
use Rattle.verify80_suggest.specs.Ranges.{CoversBelow}
use Rattle.verify80_suggest.proofs.ranges.ranges_of.Given as goal

abbrev pub invariant-loop-at : goal.invariant-loop-at
invariant-loop-at l = record {
  inside : l.at ≤ 65536;
  cover : CoversBelow (marked l.marks) l.at l.ranges.items;
}

abbrev pub decreases-loop-at : goal.decreases-loop-at
decreases-loop-at l = 65536 - l.at
