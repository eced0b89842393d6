-- How often a run begins an instruction at each address. (This project's own.)
use Rattle.std.specs.Prelude.{◌≡◌, ℕ, ◌<◌, ◌==◌, List, Option, None, Some, length, map, slice_index, if◌then◌else◌}
use Rattle.std.specs.List.{range_with_len, sum_by}
use Rattle.image80.specs.Regions.{Areas}
use Rattle.machine80.specs.World.{World, world_at}

-- 1 for a world whose next step begins at an address, and 0 for every other
abbrev pub begun_at : ℕ → Option World → ℕ
begun_at address None = 0
begun_at address (Some w) = if w.machine.cpu.pc == address then 1 else 0

-- how many of a given number of steps of a run begin at an address
unfoldable pub steps_at : Areas → Option ℕ → World → (steps address : ℕ) → ℕ
steps_at regions most start steps address = sum_by (begun_at address) (map (world_at regions most start) (range_with_len 0 steps))

-- for each of the 65536 addresses, how many of a given number of steps begin there
pub record CountsSteps (regions : Areas) (most : Option ℕ) (start : World) (steps : ℕ) (counts : List ℕ) : Type 0 where
  pub whole : length counts ≡ 65536
  pub each : (address : ℕ) → address < 65536 → slice_index counts address ≡ steps_at regions most start steps address
