-- the chunks so far are in their places
use Rattle.std.proofs.Common.{◌≡◌, ℕ, ◌<◌, length, slice_index, take}
use Rattle.rom80.specs.Rom.{byte_or}
use Rattle.rom80.proofs.memory.memory_of.Given as goal

abbrev pub invariant-loop-chunk : goal.invariant-loop-chunk
invariant-loop-chunk l = record {
  whole : length l.memory.items ≡ 65536;
  bytes : (address : ℕ) → address < 65536 → slice_index l.memory.items address ≡ byte_or l.fill (take l.chunk-index l.chunks) address;
}
