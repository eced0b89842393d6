use Rattle.verify80_cases.specs.Marks.{AreMarks}
use Rattle.verify80_suggest.specs.Tables.{in_table}
use Rattle.verify80_suggest.proofs.tables.find_bytes_of.Given as goal

abbrev pub invariant-loop-address : goal.invariant-loop-address
invariant-loop-address l = record {
  marks : AreMarks (in_table l.words l.firsts l.lasts) l.address l.marks.items;
}
