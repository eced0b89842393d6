use Rattle.std.proofs.Common.{◌≡◌, ℕ, length, take}
use Rattle.std.specs.Prelude.{slice_index}
use Rattle.image80.specs.Image.{byte_at}
use Rattle.image80.proofs.image.Image.memory.Given as goal

-- the chunks so far are in their places
abbrev pub invariant-loop-chunk : goal.invariant-loop-chunk
invariant-loop-chunk l = record {
  whole : length l.memory.items ≡ 65536;
  bytes : (address : ℕ) → slice_index l.memory.items address ≡ byte_at (take l.chunk-index l.self.chunks) address;
}
