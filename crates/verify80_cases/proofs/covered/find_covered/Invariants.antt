use Rattle.verify80_cases.specs.Covered.{is_covered}
use Rattle.verify80_cases.specs.Marks.{AreMarks}
use Rattle.verify80_cases.proofs.covered.find_covered.Given as goal

abbrev pub invariant-loop-address : goal.invariant-loop-address
invariant-loop-address l = record {
  marks : AreMarks (is_covered l.code l.reached) l.address l.marks.items;
}
