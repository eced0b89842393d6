-- Ranges of addresses in a memory of 65536 bytes. (8080 Assembly Language Programming Manual: addresses are words.)
use Rattle.std.specs.Prelude.{ℕ, ◌+◌, ◌≤◌, ◌<◌, Bool, ◌&&◌, nat_lt, nat_le, List}
use Rattle.std.specs.List.{list_any}
use Rattle.image80.specs.declared.range.Range.{Range}

-- whether an address is one of the range's
abbrev pub in_range : Range → ℕ → Bool
in_range range address = nat_le range.first address && nat_lt address (range.first + range.length)

-- whether an address is in the union of the ranges
abbrev pub in_ranges : List Range → ℕ → Bool
in_ranges ranges address = list_any (λ range. in_range range address) ranges

-- a range that lies in memory: its first address and its length are words, and it ends at or
-- below 65536
pub record IsInMemory (range : Range) : Type 0 where
  pub first : range.first < 65536
  pub length : range.length < 65536
  pub «end» : range.first + range.length ≤ 65536
