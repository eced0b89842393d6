-- The ranges at which an image has bytes.
-- (8080 Object Module Formats, content record: a record's bytes stand at successive addresses, and those of the next one may go on.)
use Rattle.std.specs.Prelude.{◌+◌, ◌==◌, ◌&&◌, nat_lt, if◌then◌else◌, List, [], ◌∷◌, length}
use Rattle.image80.specs.declared.range.Range.{Range}
use Rattle.image80.specs.Image.{PlacedBytes}

-- the range of a chunk, from the beginning of the one before it on if that ends where the chunk begins and the two together have at most a range's addresses
abbrev pub joined : (before : Range) → PlacedBytes → Range
joined before chunk =
    if before.first + before.length == chunk.address && nat_lt (before.length + length chunk.bytes) 65536
    then record { first = before.first; length = before.length + length chunk.bytes }
    else record { first = chunk.address; length = length chunk.bytes }

-- a range for each chunk, behind the one before them
abbrev pub joined_from : (before : Range) → List PlacedBytes → List Range
joined_from before [] = []
joined_from before (chunk ∷ chunks) = joined before chunk ∷ joined_from (joined before chunk) chunks

-- a range for each chunk: the first of them that has an address reaches down to the first of the chunks that lie side by side there
abbrev pub byte_ranges : List PlacedBytes → List Range
byte_ranges chunks = joined_from (record { first = 0; length = 0 }) chunks
