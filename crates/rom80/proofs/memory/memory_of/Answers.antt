use Rattle.std.proofs.Common.{◌≡◌, ◌∙◌, ap, length, replicate}
use Rattle.std.proofs.lemmas.List.{get_or-replicate, length-replicate}
use Rattle.rom80.proofs.ChunkLemmas.{placed-more, placed-all}
use Rattle.rom80.proofs.memory.memory_of.Goals as goal

pub loop-chunk-init : goal.loop-chunk-init
loop-chunk-init c =
    let copies : c.in_ok-memory.memory.items ≡ replicate 65536 c.args.fill = c.in_ok-memory.ensures.items_if_clones_equal (λ y same. same) in
    record {
      whole = ap length copies ∙ length-replicate 65536 c.args.fill;
      bytes = λ address inside. rw copies (get_or-replicate 65536 address c.args.fill 0 inside);
    }

pub loop-chunk-preserved : goal.loop-chunk-preserved
loop-chunk-preserved c = record {
  whole = c.place.ensures.whole ∙ c.loop-chunk.invariant.whole;
  bytes = placed-more c.args.fill c.args.chunks.now c.loop-chunk.chunk-index c.chunk-item.result _ _ c.loop-chunk-test.true c.chunk-item.is c.loop-chunk.invariant.bytes c.place.ensures;
}

pub returns-clause-bytes : goal.returns-clause-bytes
returns-clause-bytes c = placed-all c.args.fill c.args.chunks.now c.loop-chunk.chunk-index _ c.loop-chunk-test.false c.loop-chunk.invariant.bytes
