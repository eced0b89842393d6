-- Ranges of the addresses that pass a test. (This project's own.)
use Rattle.std.specs.Prelude.{◌≡◌, ℕ, ◌+◌, ◌≤◌, ◌<◌, ◌&&◌, Bool, true, nat_lt, List, All, Contains}
use Rattle.image80.specs.declared.range.Range.{Range}
use Rattle.image80.specs.Range.{in_ranges, IsInMemory}
use Rattle.image80.specs.Regions.{AreDisjoint}

-- the ranges cover exactly the addresses that pass a test, and none ends where another one begins, unless it is as long as a range
-- can be
pub record Covers (test : ℕ → Bool) (ranges : List Range) : Type 0 where
  pub exact : (address : ℕ) → in_ranges ranges address ≡ (nat_lt address 65536 && test address)
  pub joined : (a b : Range) → Contains ranges a → Contains ranges b → a.first + a.length ≡ b.first → a.length ≡ 65535

-- a range ends at or below an address, and goes up to it only if it is as long as a range can be, or that address doesn't pass
pub record IsPassed (test : ℕ → Bool) (limit : ℕ) (range : Range) : Type 0 where
  pub within : range.first + range.length ≤ limit
  pub ends : limit < 65536 → range.first + range.length ≡ limit → test limit ≡ true → range.length ≡ 65535

-- ranges that cover exactly the addresses below a limit that pass a test: they are in memory, none is empty, and no two share an
-- address or touch
pub record CoversBelow (test : ℕ → Bool) (limit : ℕ) (ranges : List Range) : Type 0 where
  pub exact : (address : ℕ) → in_ranges ranges address ≡ (nat_lt address limit && test address)
  pub joined : (a b : Range) → Contains ranges a → Contains ranges b → a.first + a.length ≡ b.first → a.length ≡ 65535
  pub filled : All (λ range. 0 < range.length) ranges
  pub in_memory : All IsInMemory ranges
  pub apart : AreDisjoint ranges
  pub passed : All (IsPassed test limit) ranges
