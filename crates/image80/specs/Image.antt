-- The image of a located program, and its memory.
-- (8080 Object Module Formats: the content records of an absolute module, which are loaded in their order.)
use Rattle.std.specs.Prelude.{ℕ, ◌+◌, ◌-◌, ◌≤◌, Bool, ◌&&◌, nat_lt, nat_le, Option, None, List, length, map, filter, slice_index}
use Rattle.std.specs.List.{last_or, range_with_len}
use Rattle.std.specs.Option.{option_map_or}
use Rattle.image80.specs.Regions.{Areas}

-- bytes and the address of the first of them
pub record PlacedBytes : Type 0 where
  pub address : ℕ
  pub bytes : List ℕ

-- the rule of a chunk: no more bytes than one content record carries (65534 bytes of body, of which
-- three are the segment and the offset), and none past the end of memory
pub record IsChunk (chunk : PlacedBytes) : Type 0 where
  pub in_record : length chunk.bytes ≤ 65531
  pub in_memory : chunk.address + length chunk.bytes ≤ 65536

-- a located program: its name, its chunks in the order of their records, its regions, and the
-- address where it starts
pub record Located : Type 0 where
  pub name : List ℕ
  pub chunks : List PlacedBytes
  pub regions : Areas
  pub start : ℕ

-- whether one of the chunk's bytes stands at the address
abbrev pub covers : PlacedBytes → ℕ → Bool
covers chunk address = nat_le chunk.address address && nat_lt address (chunk.address + length chunk.bytes)

-- the byte of the chunk at an address that it covers
abbrev pub byte_of : PlacedBytes → ℕ → ℕ
byte_of chunk address = slice_index chunk.bytes (address - chunk.address)

-- the last of the chunks that cover the address
abbrev pub last_over : List PlacedBytes → ℕ → Option PlacedBytes
last_over chunks address = last_or None (filter (λ chunk. covers chunk address) chunks)

-- the byte at an address: that of the last chunk that covers it, and 0 if none does
abbrev pub byte_at : List PlacedBytes → ℕ → ℕ
byte_at chunks address = option_map_or (λ chunk. byte_of chunk address) (last_over chunks address) 0

-- the memory of chunks: 65536 bytes, by address
unfoldable pub memory_of : List PlacedBytes → List ℕ
memory_of chunks = map (byte_at chunks) (range_with_len 0 65536)
