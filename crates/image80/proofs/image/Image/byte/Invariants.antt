use Rattle.std.proofs.Common.{◌≡◌, take}
use Rattle.image80.specs.Image.{byte_at}
use Rattle.image80.proofs.image.Image.byte.Given as goal

abbrev pub invariant-loop-chunk : goal.invariant-loop-chunk
invariant-loop-chunk l = l.byte ≡ byte_at (take l.chunk-index l.chunk-items) l.address
