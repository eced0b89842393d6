-- what was checked, and what is left
use Rattle.std.proofs.Common.{◌-◌, length}
use Rattle.omf_module.specs.Pieces.{BegunModule}
use Rattle.omf_module.proofs.pieces.walk_on.Given as goal

abbrev pub invariant-loop-alloc : goal.invariant-loop-alloc
invariant-loop-alloc l = BegunModule l.bytes l.begin l.here l.commons.items

abbrev pub decreases-loop-alloc : goal.decreases-loop-alloc
decreases-loop-alloc l = length l.bytes - l.here
