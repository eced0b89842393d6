use Rattle.std.proofs.Common.{◌≡◌, ◌∙◌, ap, subst, length, get_or, List, ◌≤◌, ◌<◌}
use Rattle.image80.specs.Image.{PlacedBytes, Located}
use Rattle.image80.proofs.MemoryLemmas.{placed-more, placed_all}
use Rattle.image80.proofs.image.Image.memory.Goals as goal

pub loop-chunk-preserved : goal.loop-chunk-preserved
loop-chunk-preserved c =
    let same : c.deref-chunk-items.result.now ≡ c.args.self.now.chunks = c.deref-chunk-items.ensures.value ∙ ap (λ (v : Located). v.chunks) c.self.view_is in
    let inside : c.loop-chunk.chunk-index < length c.args.self.now.chunks = subst (λ (l : List PlacedBytes). c.loop-chunk.chunk-index < length l) same c.loop-chunk-test.true in
    let here : c.chunk-item.result ≡ get_or c.args.self.now.chunks c.loop-chunk.chunk-index c.chunk-item.result = c.chunk-item.is ∙ ap (λ (l : List PlacedBytes). get_or l c.loop-chunk.chunk-index c.chunk-item.result) same in
    record { whole = c.place.ensures.whole ∙ c.loop-chunk.invariant.whole; bytes = placed-more c.args.self.now.chunks c.loop-chunk.chunk-index c.chunk-item.result _ _ inside here c.loop-chunk.invariant.bytes c.place.ensures }

pub returns-clause-bytes : goal.returns-clause-bytes
returns-clause-bytes c =
    let same : c.deref-chunk-items.result.now ≡ c.args.self.now.chunks = c.deref-chunk-items.ensures.value ∙ ap (λ (v : Located). v.chunks) c.self.view_is in
    let past : length c.args.self.now.chunks ≤ c.loop-chunk.chunk-index = subst (λ (l : List PlacedBytes). length l ≤ c.loop-chunk.chunk-index) same c.loop-chunk-test.false in
    placed_all c.args.self.now.chunks c.loop-chunk.chunk-index _ past c.loop-chunk.invariant.whole c.loop-chunk.invariant.bytes
