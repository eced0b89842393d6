use Rattle.std.proofs.Common.{take}
use Rattle.image80_source.specs.SourceText.{begins}
use Rattle.image80_source.specs.Placed.{AreMarksOf}
use Rattle.image80_source.proofs.covered.marks_of_lines.Given as goal

-- the lines so far are marked
abbrev pub invariant-loop-line : goal.invariant-loop-line
invariant-loop-line l = AreMarksOf (begins (take l.line-index l.lines)) l.marks.items
