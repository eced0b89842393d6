-- none of the chunks so far covers one of the addresses
use Rattle.std.proofs.Common.{take}
use Rattle.rom80.specs.Rom.{ShareAnAddress}
use Rattle.rom80.proofs.dumps.share_an_address.Given as goal

abbrev pub invariant-loop-chunk : goal.invariant-loop-chunk
invariant-loop-chunk l = ShareAnAddress (take l.chunk-index l.chunks) l.first l.count → ⊥
