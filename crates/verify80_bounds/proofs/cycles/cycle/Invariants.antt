use Rattle.std.specs.Prelude.{sum_by}
use Rattle.verify80_bounds.specs.Sums.{IsFollowing}
use Rattle.verify80_bounds.proofs.FollowLemmas.{unmet}
use Rattle.verify80_bounds.proofs.cycles.cycle.Given as goal

abbrev pub invariant-loop-caller : goal.invariant-loop-caller
invariant-loop-caller l = IsFollowing l.calls l.next.items l.met.items l.call

abbrev pub decreases-loop-caller : goal.decreases-loop-caller
decreases-loop-caller l = sum_by unmet l.met.items
