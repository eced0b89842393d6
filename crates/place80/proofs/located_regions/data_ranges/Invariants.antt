use Rattle.std.proofs.Common.{◌≡◌, ◌++◌, drop}
use Rattle.place80.specs.Locating.{located_data}
use Rattle.place80.proofs.located_regions.data_ranges.Given as goal

-- the ranges so far, and those of the segments that are left
abbrev pub invariant-loop-placed : goal.invariant-loop-placed
invariant-loop-placed l = l.ranges.items ++ located_data (drop l.placed-index l.segments) ≡ located_data l.segments
