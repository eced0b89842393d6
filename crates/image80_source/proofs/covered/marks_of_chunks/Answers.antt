use Rattle.std.proofs.Common.{subst}
use Rattle.image80.specs.Image.{PlacedBytes, covers}
use Rattle.image80.specs.RegionMap.{IsMarked}
use Rattle.image80_source.proofs.MarkLemmas.{marks_all, marks_more}
use Rattle.image80_source.proofs.covered.marks_of_chunks.Goals as goal

pub loop-chunk-init : goal.loop-chunk-init
loop-chunk-init c = record { whole = c.in_ok-marks.ensures.whole; marks_are = c.in_ok-marks.ensures.zeros }

pub loop-chunk-preserved : goal.loop-chunk-preserved
loop-chunk-preserved c =
    marks_more covers c.args.chunks.now c.loop-chunk.chunk-index c.chunk-item.result _ _ c.loop-chunk-test.true c.loop-chunk.invariant
    (subst (λ (chunk : PlacedBytes). IsMarked c.loop-chunk.marks.items (covers chunk) 1 c.mark_chunk.new.marks.items) c.chunk-item.is c.mark_chunk.ensures)

pub returns : goal.returns
returns c = marks_all covers c.args.chunks.now c.loop-chunk.chunk-index _ c.loop-chunk-test.false c.loop-chunk.invariant
