-- The addresses at which a dump has each byte, as bits of words.
use Rattle.std.specs.Prelude.{◌≡◌, ℕ, ◌+◌, ◌*◌, ◌/◌, ◌%◌, ◌<◌, ◌==◌, ◌&&◌, ◌||◌, nat_lt, Bool, false, if◌then◌else◌, Option, Some, None, List, length, slice_index_or}
use Rattle.std.specs.Int.{bit_at}
use Rattle.std.specs.List.{list_all}
use Rattle.std.specs.Option.{option_map_or}
use Rattle.rom80_find.specs.Dump.{DumpValue, dump_byte}
use Rattle.rom80_pattern.specs.declared.code_byte.CodeByte.{CodeByte}
use Rattle.rom80_pattern.specs.CodeBytes.{is_plain}

-- the bit of a word with this number is set
abbrev pub has_bit : (word index : ℕ) → Bool
has_bit word index = bit_at word index == 1

-- the bit with this number is set in words that have 64 bits each
abbrev pub bit_in : List ℕ → (index : ℕ) → Bool
bit_in words index = has_bit (slice_index_or words (index / 64) 0) (index % 64)

-- the byte is in the row: rows 0 to 255 are of one byte each, row 256 of any
abbrev pub is_in_row : (row byte : ℕ) → Bool
is_in_row row byte = (row == byte || row == 256) && nat_lt byte 256

-- at this address the dump has a byte of the row
abbrev pub has_row : DumpValue → (row address : ℕ) → Bool
has_row dump row address = option_map_or (is_in_row row) (dump_byte dump address) false

-- a row: a bit for each address, and then the same bits again
pub record IsRow (dump : DumpValue) (row : ℕ) (words : List ℕ) : Type 0 where
  pub whole : length words ≡ 2048
  pub each : (at : ℕ) → at < 131072 → bit_in words at ≡ has_row dump row (at % 65536)

-- the 257 rows one after another, with the bits of the addresses below one
pub record AreMarks (dump : DumpValue) (stop : ℕ) (words : List ℕ) : Type 0 where
  pub whole : length words ≡ 526336
  pub each : (row at : ℕ) → row < 257 → at < 131072 → bit_in words (row * 131072 + at) ≡ (nat_lt at stop && has_row dump row (at % 65536))

-- the bits of an address at which there is this byte
abbrev pub is_mark : (found : Option ℕ) (at index : ℕ) → Bool
is_mark None at index = false
is_mark (Some byte) at index = (index == byte * 131072 + at || index == 33554432 + at) && nat_lt byte 256

-- the row in which a byte of code is looked up: its own outside fixups, otherwise that of any byte
abbrev pub row_of : CodeByte → ℕ
row_of b = if is_plain b then b.addend % 256 else 256

-- the row of the byte has the address at which the byte would be with CODE at this one
abbrev pub passes : DumpValue → (address : ℕ) → CodeByte → Bool
passes dump address b = has_row dump (row_of b) ((address + b.offset) % 65536)

-- a bit for each address, set if with CODE there all bytes of the code are in their rows
pub record AreSieved (dump : DumpValue) (code : List CodeByte) (alive : List ℕ) : Type 0 where
  pub whole : length alive ≡ 1024
  pub each : (address : ℕ) → address < 65536 → bit_in alive address ≡ list_all (passes dump address) code
