-- How far data goes on from an address. (This project's own.)
use Rattle.std.specs.Prelude.{◌≡◌, ◌≤◌, ◌<◌, ℕ, true, false, List, length, slice_index}
use Rattle.image80.specs.Regions.{Areas, in_data}

-- each address from one on below another is data, and the other is not, if it is an address of memory
pub record ReachesTo (regions : Areas) (from to : ℕ) : Type 0 where
  pub data_ranges : (address : ℕ) → from ≤ address → address < to → in_data regions address ≡ true
  pub ends : to < 65536 → in_data regions to ≡ false
  pub up : from ≤ to
  pub within : to ≤ 65536

-- for each address of memory the first one from there on that is not data, or 65536
pub record AreDataEnds (regions : Areas) (ends : List ℕ) : Type 0 where
  pub whole : length ends ≡ 65536
  pub each : (from : ℕ) → from < 65536 → ReachesTo regions from (slice_index ends from)
