use Rattle.std.proofs.Common.{rules, ◌≡◌, ◌∙◌, arith, drop, take, ap, List}
use Rattle.image80.specs.Image.{Located, PlacedBytes}
use Rattle.rom80.specs.Rom.{byte_or}
use Rattle.rom80.proofs.ChunkLemmas.{memory_part}
use Rattle.rom80.proofs.extracting.bytes_over.Goals as goal

pub returns-clause-bytes : goal.returns-clause-bytes
returns-clause-bytes c =
    let part : c.in_ok-from_slice.field-0.items ≡ take c.args.length (drop c.args.first c.in_ok-memory.memory.items) = search rules in
    let same : c.deref.result.now ≡ c.args.image.now.chunks = c.deref.ensures.value ∙ ap (λ (v : Located). v.chunks) c.image.view_is in
    part ∙ memory_part c.args.fill c.args.image.now.chunks c.in_ok-memory.memory.items c.args.first c.args.length c.in_ok-memory.ensures.whole
    (λ address below. c.in_ok-memory.ensures.bytes address below ∙ ap (λ (l : List PlacedBytes). byte_or c.args.fill l address) same) (omega arith)
