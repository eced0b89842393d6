use Rattle.std.specs.Prelude.{◌≡◌, ◌≤◌, ℕ, ◌+◌, ◌∷◌, [], ◌++◌, List, drop, length}
use Rattle.std.proofs.Common.{◌∙◌, ap, sym, arith, append_assoc, append-nil}
use Rattle.std.proofs.lemmas.List.{at_drop_all, at_drop_more}
use Rattle.image80.specs.declared.range.Range.{Range}
use Rattle.image80.specs.Image.{Located, PlacedBytes}
use Rattle.rom80.specs.Ranges.{byte_ranges, joined, joined_from}
use Rattle.rom80.proofs.ranges.byte_ranges.Goals as goal

pub loop-chunk-preserved : goal.loop-chunk-preserved
loop-chunk-preserved c =
    let i : ℕ = c.loop-chunk.chunk-index in
    let chunks : List PlacedBytes = c.deref-chunk-items.result.now in
    let rest : List PlacedBytes = drop (i + 1) chunks in
    let before : Range = c.loop-chunk.before in
    let ranges : List Range = c.loop-chunk.ranges.items in
    let chunk : PlacedBytes = c.chunk-item.result in
    let next : Range = c.joined-before.result in
    let step : joined_from before (drop i chunks) ≡ joined before chunk ∷ joined_from (joined before chunk) rest =
    at_drop_more (joined_from before) chunks i chunk c.loop-chunk-test.true
    ∙ ap (λ (found : PlacedBytes). joined_from before (found ∷ rest)) (sym c.chunk-item.is) in
    ap (λ (found : List Range). found ++ joined_from next rest) c.in_ok-push.ensures.items
    ∙ append_assoc ranges (next ∷ []) (joined_from next rest)
    ∙ ap (λ (range : Range). ranges ++ range ∷ joined_from range rest) c.joined-before.ensures
    ∙ ap (λ (left : List Range). ranges ++ left) (sym step)
    ∙ c.loop-chunk.invariant

pub returns : goal.returns
returns c =
    let i : ℕ = c.loop-chunk.chunk-index in
    let chunks : List PlacedBytes = c.deref-chunk-items.result.now in
    let before : Range = c.loop-chunk.before in
    let ranges : List Range = c.loop-chunk.ranges.items in
    let past : length chunks ≤ i = omega (arith, c.loop-chunk-test.false) in
    sym (append-nil ranges)
    ∙ ap (λ (left : List Range). ranges ++ left) (sym (at_drop_all (joined_from before) chunks i past))
    ∙ c.loop-chunk.invariant
    ∙ ap byte_ranges c.deref-chunk-items.ensures.value
    ∙ ap (λ (image : Located). byte_ranges image.chunks) c.image.view_is
