use Rattle.std.specs.Prelude.{◌≡◌, ℕ, ◌-◌, ◌<◌, ◌≤◌, length}
use Rattle.std.proofs.Common.{get_or}
use Rattle.verify80_follow.specs.Writes.{WritesTo}
use Rattle.verify80_follow.proofs.writes.find_write_ends.Given as goal

abbrev pub invariant-loop-above : goal.invariant-loop-above
invariant-loop-above l = record {
  whole : length l.ends.items ≡ 65536;
  current : WritesTo l.regions l.marks (65536 - l.above) l.end;
  each : (from : ℕ) → 65536 - l.above ≤ from → from < 65536 → WritesTo l.regions l.marks from (get_or l.ends.items from 0);
}
