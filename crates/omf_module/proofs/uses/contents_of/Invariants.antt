-- what was looked at, and what is left
use Rattle.std.proofs.Common.{drop}
use Rattle.omf_module.proofs.UseLemmas.{ContentsSoFar}
use Rattle.omf_module.proofs.uses.contents_of.Given as goal

abbrev pub invariant-loop-placed : goal.invariant-loop-placed
invariant-loop-placed l = ContentsSoFar l.parts l.bodies (drop l.placed-index l.bodies) l.nearest l.whole.items
