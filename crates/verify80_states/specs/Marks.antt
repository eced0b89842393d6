-- Marks and entries by address. (This project's own.)
use Rattle.std.specs.Prelude.{ℕ, Bool, false, List, Option, None, slice_index_or}

-- whether an address is marked
abbrev pub is_marked : List Bool → ℕ → Bool
is_marked marks address = slice_index_or marks address false

-- what stands in a table at an address, if anything does
abbrev pub entry_at : {A : Type 0} → List (Option A) → ℕ → Option A
entry_at table at = slice_index_or table at None
