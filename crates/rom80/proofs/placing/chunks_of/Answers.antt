use Rattle.std.proofs.Common.{rules, ◌≡◌, ◌+◌, ◌-◌, ◌++◌, arith, drop, length, length-drop, take, take_all, refl}
use Rattle.rom80.specs.Rom.{chunks_at}
use Rattle.rom80.proofs.ChunkLemmas.{split_at}
use Rattle.rom80.proofs.placing.chunks_of.Goals as goal

pub returns : goal.returns
returns c =
    let bytes = c.args.bytes.now in
    let split = c.min-split.result in
    let same = split_at bytes 65531 split (search rules) in
    let rest : take (length bytes - split) (drop split bytes) ≡ drop split bytes = take_all (length bytes - split) (drop split bytes) (omega (arith, length-drop split bytes)) in
    let made : c.push_chunk-2.new.chunks.items ≡ chunks_at c.args.first (take split bytes) ++ chunks_at (c.args.first + 65531) (drop split bytes) =
    rw (c.in_ok-push_chunk-2.ensures, c.in_ok-push_chunk.ensures, c.new-chunks.ensures.items, rest, c.from.ensures, c.from-2.ensures) refl in
    rw (← same.0, ← same.1) made
