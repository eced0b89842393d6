-- A chunk that is written into a memory. (8080 Object Module Formats, content record: its bytes stand at successive
-- addresses. That a memory is 0 before them is this project's own.)
use Rattle.std.specs.Prelude.{◌≡◌, ℕ, List, length, slice_index, if◌then◌else◌}
use Rattle.image80.specs.Image.{PlacedBytes, covers, byte_of}

-- the memory with the chunk's bytes at their addresses, and every other byte as it was
pub record Holds (before : List ℕ) (chunk : PlacedBytes) (after : List ℕ) : Type 0 where
  pub whole : length after ≡ length before
  pub bytes : (address : ℕ) →
      slice_index after address ≡ (if covers chunk address then byte_of chunk address else slice_index before address)

-- a given number of bytes, and each is 0
pub record AreZeros (bytes : List ℕ) (count : ℕ) : Type 0 where
  pub whole : length bytes ≡ count
  pub zeros : (address : ℕ) → slice_index bytes address ≡ 0
