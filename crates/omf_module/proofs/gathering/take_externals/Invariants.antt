-- what was taken, and what is left
use Rattle.std.proofs.Common.{◌≡◌, ◌++◌, length, map}
use Rattle.omf_module.specs.Gathered.{externals_in}
use Rattle.omf_module.proofs.gathering.take_externals.Given as goal

abbrev pub invariant-loop-entry : goal.invariant-loop-entry
invariant-loop-entry l = l.externals.items ++ map (λ e. e.name) l.rest ≡ l.fn.externals.items ++ externals_in l.body

abbrev pub decreases-loop-entry : goal.decreases-loop-entry
decreases-loop-entry l = length l.rest
