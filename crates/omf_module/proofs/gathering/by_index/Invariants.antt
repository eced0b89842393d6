-- what was taken, and what is left
use Rattle.std.proofs.Common.{◌≡◌, ◌++◌, length, map}
use Rattle.omf_model.specs.declared.fixup.Target.TheVariants as target
use Rattle.omf_module.proofs.gathering.by_index.Given as goal

abbrev pub invariant-loop-entry : goal.invariant-loop-entry
invariant-loop-entry l =
    l.fixups.items ++ map (λ r. record { offset = r.offset; field = l.body.field; target = target.External r.index }) l.rest
    ≡ map (λ r. record { offset = r.offset; field = l.body.field; target = target.External r.index }) l.body.references

abbrev pub decreases-loop-entry : goal.decreases-loop-entry
decreases-loop-entry l = length l.rest
