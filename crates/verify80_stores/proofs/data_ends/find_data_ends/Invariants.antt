use Rattle.verify80_stores.proofs.Names.{◌≡◌, ℕ, ◌-◌, ◌<◌, ◌≤◌, length, get_or, ReachesTo}
use Rattle.verify80_stores.proofs.data_ends.find_data_ends.Given as goal

abbrev pub invariant-loop-above : goal.invariant-loop-above
invariant-loop-above l = record {
  whole : length l.ends.items ≡ 65536;
  current : ReachesTo l.regions (65536 - l.above) l.end;
  each : (from : ℕ) → 65536 - l.above ≤ from → from < 65536 → ReachesTo l.regions from (get_or l.ends.items from 0);
}
