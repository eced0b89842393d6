use Rattle.verify80.specs.Looking.{code_of}
use Rattle.verify80.proofs.ReachedLemmas.{AreNoted}
use Rattle.verify80.proofs.reached.find_reached.Given as goal

abbrev pub invariant-loop-point : goal.invariant-loop-point
invariant-loop-point l = AreNoted (code_of l.vouched.image) l.points l.point-index l.table.items
