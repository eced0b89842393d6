-- what is left lists no id twice where all lists none twice
use Rattle.std.proofs.Common.{◌≡◌, length}
use Rattle.omf_body.specs.Bodies.{are_distinct}
use Rattle.omf_body.proofs.distinct.are_distinct.Given as goal

abbrev pub invariant-loop-segment : goal.invariant-loop-segment
invariant-loop-segment l = are_distinct l.rest ≡ are_distinct l.initial.rest

abbrev pub decreases-loop-segment : goal.decreases-loop-segment
decreases-loop-segment l = length l.rest
