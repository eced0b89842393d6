-- the addresses so far
use Rattle.rom80_find.specs.Dump.{dump_of}
use Rattle.rom80_find.specs.Marks.{AreMarks}
use Rattle.rom80_find.proofs.marks.mark_all.Given as goal

abbrev pub invariant-loop-at : goal.invariant-loop-at
invariant-loop-at l = AreMarks (dump_of l.dump) l.at l.marks
