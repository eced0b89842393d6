-- A dump of a read-only memory: the bytes of the addresses from `first` on.
use Rattle.std.specs.Prelude.{ℕ, ◌-◌, ◌&&◌, nat_le, nat_lt, if◌then◌else◌, Option, Some, None, List, length, slice_index}
use Rattle.rom80_find.specs.declared.dump.Dump.{Dump}

pub record DumpValue : Type 0 where
  pub first : ℕ
  pub bytes : List ℕ

-- the dump whose bytes are lent
abbrev pub dump_of : Dump → DumpValue
dump_of lent = record { first = lent.first; bytes = lent.bytes.now }

-- its byte at an address
abbrev pub dump_byte : DumpValue → (address : ℕ) → Option ℕ
dump_byte dump address =
    if nat_le dump.first address && nat_lt (address - dump.first) (length dump.bytes) then Some (slice_index dump.bytes (address - dump.first)) else None
