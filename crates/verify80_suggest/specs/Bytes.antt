-- The addresses at which an image has bytes. (8080 Object Module Formats: content records. That a range of the ROM bounds the code
-- is this project's own.)
use Rattle.std.specs.Prelude.{ℕ, ◌+◌, ◌&&◌, ◌||◌, ◌==◌, Bool, nat_le, nat_lt, List, length}
use Rattle.std.specs.List.{list_any}
use Rattle.image80.specs.declared.range.Range.{Range}
use Rattle.image80.specs.Image.{PlacedBytes, covers}
use Rattle.image80.specs.Range.{in_ranges}

-- whether an address is one of a given number from the first on
abbrev pub in_span : (first count : ℕ) → ℕ → Bool
in_span first count address = nat_le first address && nat_lt address (first + count)

-- whether one of the chunks has a byte at an address
abbrev pub has_byte : List PlacedBytes → ℕ → Bool
has_byte chunks address = list_any (λ chunk. covers chunk address) chunks

-- whether an address may be code: the image has a byte there, and it is in a range of the ROM, if such ranges are given
abbrev pub may_be_code : List PlacedBytes → (rom : List Range) → ℕ → Bool
may_be_code chunks rom address = has_byte chunks address && (length rom == 0 || in_ranges rom address)
