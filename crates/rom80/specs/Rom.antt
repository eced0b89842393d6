-- The bytes of an image's memory over a range, and the chunks of bytes from an address on.
-- (8080 Object Module Formats, content record: its bytes stand at successive addresses. That there are 65531 of them at most
-- follows from the length of a record, a word: of 65535 bytes one is the checksum, and three are the segment and the offset.)
use Rattle.std.specs.Prelude.{◌≡◌, ℕ, ◌+◌, ◌-◌, ◌%◌, nat_le, nat_lt, ◌&&◌, Bool, true, if◌then◌else◌, List, [], ◌∷◌, ◌++◌, codes, length, map, take, drop, slice_index}
use Rattle.std.specs.List.{list_any, range_with_len, sum}
use Rattle.std.specs.Option.{option_map_or}
use Rattle.text80.specs.Digits.{word_text}
use Rattle.image80.specs.Image.{PlacedBytes, covers, byte_of, last_over}

-- the byte at an address: that of the last chunk that covers it, and `fill` if none does
abbrev pub byte_or : (fill : ℕ) → List PlacedBytes → (address : ℕ) → ℕ
byte_or fill chunks address = option_map_or (λ chunk. byte_of chunk address) (last_over chunks address) fill

-- that byte at each address of a range
abbrev pub bytes_over : (fill : ℕ) → List PlacedBytes → (first length : ℕ) → List ℕ
bytes_over fill chunks first length = map (byte_or fill chunks) (range_with_len first length)

-- the line with the sum of bytes, modulo 65536
abbrev pub sum_line : List ℕ → List ℕ
sum_line bytes = codes "SUM " ++ (word_text (sum bytes % 65536) ++ 10 ∷ [])

-- one chunk of these bytes, if there are any
abbrev pub chunks_at : ℕ → List ℕ → List PlacedBytes
chunks_at address [] = []
chunks_at address (byte ∷ bytes) = record { address = address; bytes = byte ∷ bytes } ∷ []

-- the chunks of bytes from an address on, of which one holds 65531 at most
abbrev pub chunks_of : ℕ → List ℕ → List PlacedBytes
chunks_of first bytes = chunks_at first (take 65531 bytes) ++ chunks_at (first + 65531) (drop 65531 bytes)

-- the address is one of `count` from `first` on
abbrev pub is_among : (first count address : ℕ) → Bool
is_among first count address = nat_le first address && nat_lt address (first + count)

-- the byte at an address where bytes stand from `first` on, and `other` everywhere else
abbrev pub byte_among : (first : ℕ) (bytes : List ℕ) (other address : ℕ) → ℕ
byte_among first bytes other address = if is_among first (length bytes) address then slice_index bytes (address - first) else other

-- one of the chunks covers the address
abbrev pub is_covered : List PlacedBytes → (address : ℕ) → Bool
is_covered chunks address = list_any (λ chunk. covers chunk address) chunks

-- an address that one of the chunks covers is one of `count` from `first` on
abbrev pub ShareAnAddress : List PlacedBytes → (first count : ℕ) → Type 0
ShareAnAddress chunks first count = (address : ℕ) × (is_covered chunks address ≡ true) × (is_among first count address ≡ true)
