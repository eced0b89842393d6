-- what was taken, and what is left
use Rattle.std.proofs.Common.{length}
use Rattle.omf_module.proofs.CommonLemmas.{CommonsSoFar}
use Rattle.omf_module.proofs.commons.take_commons.Given as goal

abbrev pub invariant-loop-cursor : goal.invariant-loop-cursor
invariant-loop-cursor l = CommonsSoFar l.fn.commons.items l.body l.commons.items l.cursor

abbrev pub decreases-loop-cursor : goal.decreases-loop-cursor
decreases-loop-cursor l = length l.cursor
