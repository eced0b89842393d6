-- What handlers write: how far on from an address they may store. (This project's own.)
use Rattle.std.specs.Prelude.{◌≡◌, ◌≤◌, ◌<◌, ℕ, Bool, true, List, length, slice_index}
use Rattle.image80.specs.Regions.{Areas, in_data}
use Rattle.verify80_states.specs.Marks.{is_marked}

-- an address is no data, or marked
abbrev pub MayBeWritten : Areas → List Bool → ℕ → Type 0
MayBeWritten regions marks address = in_data regions address ≡ true → is_marked marks address ≡ true

-- each address from one on below another is no data, or marked
pub record WritesTo (regions : Areas) (marks : List Bool) (from to : ℕ) : Type 0 where
  pub each : (address : ℕ) → from ≤ address → address < to → MayBeWritten regions marks address

-- the same for each address of memory
pub record AreWriteEnds (regions : Areas) (marks : List Bool) (ends : List ℕ) : Type 0 where
  pub whole : length ends ≡ 65536
  pub each : (from : ℕ) → from < 65536 → WritesTo regions marks from (slice_index ends from)
