use Rattle.std.proofs.Common.{take}
use Rattle.image80_source.specs.Lines.{is_covered}
use Rattle.image80_source.specs.Placed.{AreMarksOf}
use Rattle.image80_source.proofs.covered.marks_of_chunks.Given as goal

-- the chunks so far are marked
abbrev pub invariant-loop-chunk : goal.invariant-loop-chunk
invariant-loop-chunk l = AreMarksOf (is_covered (take l.chunk-index l.chunks)) l.marks.items
