use Rattle.std.specs.Prelude.{◌++◌, ◌+◌, List, map, drop}
use Rattle.std.proofs.Common.{◌∙◌, ap}
use Rattle.image80.specs.Image.{PlacedBytes}
use Rattle.place80.specs.Locating.{CanBePlaced, chunk_among}
use Rattle.place80.proofs.LocatedLemmas.{all_item, chunk_step}
use Rattle.place80.proofs.located_chunks.located_chunks.Goals as goal

pub loop-content-preserved : goal.loop-content-preserved
loop-content-preserved c =
    let made = c.in_ok-located_chunk.ensures in
    ap (λ (l : List PlacedBytes). l
    ++ map (chunk_among c.args.segments.now) (drop (c.loop-content.content-index + 1) c.args.contents.now))
    c.in_ok-push.ensures.items
    ∙ chunk_step c.args.segments.now c.args.contents.now c.loop-content.content-index c.content-item.result
    c.loop-content.chunks.items c.in_ok-located_chunk.field-0 c.loop-content-test.true c.content-item.is made
    ∙ c.loop-content.invariant

pub located_chunk-requires : goal.located_chunk-requires
located_chunk-requires c =
    all_item (CanBePlaced c.args.segments.now) c.args.contents.now c.loop-content.content-index c.content-item.result c.requires
    c.loop-content-test.true c.content-item.is
