-- what is left has the first fault of all
use Rattle.std.proofs.Common.{◌≡◌, length, map, List}
use Rattle.omf_model.specs.Contents.{ContentValue}
use Rattle.omf_module.specs.Uses.{unknown_id}
use Rattle.omf_module.specs.Reading.{with_contents}
use Rattle.omf_module.proofs.uses.check_header.Given as goal

abbrev pub invariant-loop-entry : goal.invariant-loop-entry
invariant-loop-entry l = (cs : List ContentValue)
    → unknown_id (with_contents l.parts cs) (map (λ e. e.id) l.rest)
    ≡ unknown_id (with_contents l.parts cs) (map (λ e. e.id) l.header.segments)

abbrev pub decreases-loop-entry : goal.decreases-loop-entry
decreases-loop-entry l = length l.rest
