use Rattle.rom80_find.proofs.TableLemmas.{found_from}
use Rattle.rom80_find.proofs.bytes.block_from.Goals as goal

pub returns : goal.returns
returns c = λ dump h.
    let chunk = c.in-Ok.ensures.1 in
    found_from dump c.args.bytes.now c.in-Ok.block.now c.args.first c.requires.first chunk.long chunk.same h
