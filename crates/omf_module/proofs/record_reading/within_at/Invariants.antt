-- what was read, and what is left
use Rattle.std.proofs.Common.{◌-◌, ◌≤◌, length}
use Rattle.omf_module.proofs.WithinLemmas.{WithinSoFar}
use Rattle.omf_module.proofs.record_reading.within_at.Given as goal

abbrev pub invariant-loop-read : goal.invariant-loop-read
invariant-loop-read l = WithinSoFar l.bytes l.first l.here l.bodies.items l.commons.items × (l.here ≤ length l.bytes)

abbrev pub decreases-loop-read : goal.decreases-loop-read
decreases-loop-read l = length l.bytes - l.here
