use Rattle.verify80_follow.proofs.ReachLemmas.{AreNoted}
use Rattle.verify80_follow.proofs.reaching.followed_instructions.Given as goal

abbrev pub invariant-loop-place : goal.invariant-loop-place
invariant-loop-place l = AreNoted l.image l.places l.place-index l.reached.items
