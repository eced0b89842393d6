use Rattle.verify80_cases.specs.Marks.{AreMarks}
use Rattle.verify80_suggest.specs.Suggestion.{is_taken}
use Rattle.verify80_suggest.proofs.arranging.find_taken.Given as goal

abbrev pub invariant-loop-address : goal.invariant-loop-address
invariant-loop-address l = record {
  marks : AreMarks (is_taken l.survey) l.address l.marks.items;
}
