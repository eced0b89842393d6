-- Bytes that are put into an image are its memory, and are taken out of it again; and the bytes of a range with the fill 0 are
-- those of the memory. (They follow from the definitions.)
use Rattle.std.specs.Prelude.{◌≡◌, ℕ, List, length, map}
use Rattle.std.specs.List.{range_with_len}
use Rattle.image80.specs.Image.{PlacedBytes, byte_at}
use Rattle.rom80.specs.Rom.{bytes_over, byte_or, chunks_of, byte_among}

-- at each address the chunks have the byte that stands there, and the fill elsewhere
abbrev pub ChunksHoldBytes : Type 0
ChunksHoldBytes = (fill first : ℕ) (bytes : List ℕ) (address : ℕ) →
    byte_or fill (chunks_of first bytes) address ≡ byte_among first bytes fill address

-- over their own range they have these bytes, whatever the fill
abbrev pub BytesAreTakenOutAgain : Type 0
BytesAreTakenOutAgain = (fill first : ℕ) (bytes : List ℕ) → bytes_over fill (chunks_of first bytes) first (length bytes) ≡ bytes

-- with the fill 0 the bytes of a range are those of the memory
abbrev pub ZeroFillIsMemory : Type 0
ZeroFillIsMemory = (chunks : List PlacedBytes) (first count : ℕ)
    → bytes_over 0 chunks first count ≡ map (byte_at chunks) (range_with_len first count)
