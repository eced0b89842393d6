-- what was read, and what is left
use Rattle.std.proofs.Common.{◌-◌, length}
use Rattle.omf_core.specs.Feed.{ReadsUpTo}
use Rattle.omf_core.proofs.feed.read_on.Given as goal

abbrev pub invariant-loop-read : goal.invariant-loop-read
invariant-loop-read l = ReadsUpTo l.bytes l.read.at l.read.count l.read.ended

abbrev pub decreases-loop-read : goal.decreases-loop-read
decreases-loop-read l = length l.bytes - l.read.at
