use Rattle.verify80_cases.specs.Marks.{AreMarks}
use Rattle.verify80_suggest.specs.Suggestion.{is_data}
use Rattle.verify80_suggest.proofs.arranging.find_data.Given as goal

abbrev pub invariant-loop-address : goal.invariant-loop-address
invariant-loop-address l = record {
  marks : AreMarks (is_data l.survey l.ram l.stack) l.address l.marks.items;
}
