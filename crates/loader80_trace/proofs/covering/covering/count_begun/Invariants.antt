use Rattle.std.proofs.Common.{◌≡◌, ◌≤◌, ◌+◌, ◌-◌}
use Rattle.loader80_trace.specs.Cover.{is_begun, tally}
use Rattle.loader80_trace.proofs.covering.covering.count_begun.Given as goal

abbrev pub invariant-loop-at : goal.invariant-loop-at
invariant-loop-at l = (l.count + tally (is_begun l.counts l.reached) l.at (65536 - l.at) ≡ tally (is_begun l.counts l.reached) 0 65536) × (l.count ≤ l.at)
