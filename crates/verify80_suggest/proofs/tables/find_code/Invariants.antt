use Rattle.verify80_cases.specs.Marks.{AreMarks}
use Rattle.verify80_suggest.specs.Tables.{is_code}
use Rattle.verify80_suggest.proofs.tables.find_code.Given as goal

abbrev pub invariant-loop-address : goal.invariant-loop-address
invariant-loop-address l = record {
  marks : AreMarks (is_code l.covered l.tables l.ram) l.address l.marks.items;
}
