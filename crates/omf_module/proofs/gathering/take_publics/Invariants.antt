-- what was taken, and what is left
use Rattle.std.proofs.Common.{◌≡◌, ◌++◌, length, map}
use Rattle.omf_module.specs.Gathered.{publics_in}
use Rattle.omf_module.proofs.gathering.take_publics.Given as goal

abbrev pub invariant-loop-entry : goal.invariant-loop-entry
invariant-loop-entry l =
    l.publics.items ++ map (λ p. record { name = p.name; segment = l.declared.segment; offset = p.offset }) l.rest
    ≡ l.fn.publics.items ++ publics_in l.body

abbrev pub decreases-loop-entry : goal.decreases-loop-entry
decreases-loop-entry l = length l.rest
