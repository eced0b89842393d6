use Rattle.std.proofs.Common.{◌≡◌, ℕ, ◌+◌, ◌<◌, List, [], ◌∷◌, ◌++◌, length, take, get_or, cond, sym, arith, ap, ◌∙◌}
use Rattle.std.proofs.lemmas.Grind.{common_steps}
use Rattle.std.proofs.lemmas.List.{take_more}
use Rattle.image80.specs.Image.{PlacedBytes, covers, byte_of, byte_at}
use Rattle.image80.specs.Memory.{byte_at-snoc}
use Rattle.image80.proofs.image.Image.byte.Goals as goal

-- one more chunk
step : (chunks : List PlacedBytes) (i : ℕ) (chunk : PlacedBytes) (address : ℕ) → i < length chunks → chunk ≡ get_or chunks i chunk →
    byte_at (take (i + 1) chunks) address ≡ cond (covers chunk address) (byte_of chunk address) (byte_at (take i chunks) address)
step chunks i chunk address below is =
    ap (λ cs. byte_at cs address) (take_more chunks i chunk below ∙ ap (λ c. take i chunks ++ c ∷ []) (sym is))
    ∙ byte_at-snoc (take i chunks) chunk address

pub loop-chunk-preserved : goal.loop-chunk-preserved
loop-chunk-preserved c =
    let next = step c.deref-chunk-items.result.now c.loop-chunk.chunk-index c.chunk-item.result c.args.address c.loop-chunk-test.true c.chunk-item.is in
    grind (arith, common_steps, next)
