use Rattle.std.proofs.Common.{◌≡◌, [], take}
use Rattle.image80.specs.RegionsText.{stack_ranges}
use Rattle.image80.proofs.read.stack_of.Given as goal

abbrev pub invariant-loop-entry : goal.invariant-loop-entry
invariant-loop-entry l = stack_ranges (take l.entry-index l.entries) ≡ []
