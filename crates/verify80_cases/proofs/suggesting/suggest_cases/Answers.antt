use Rattle.verify80_cases.proofs.FoundLemmas.{noted_can_be_added}
use Rattle.verify80_cases.proofs.NoteLemmas.{no_notes}
use Rattle.verify80_cases.proofs.SuggestedLemmas.{nothing}
use Rattle.verify80_cases.proofs.suggesting.suggest_cases.Goals as goal

pub loop-address-init : goal.loop-address-init
loop-address-init c =
    let image = c.args.image.now in
    let reached = c.search.inside.reached.items in
    let taken = c.search.inside.taken.items in
    rw c.new-2.ensures.items
    (rw c.new-3.ensures.items (rw c.new-4.ensures.items (record { so_far = nothing image reached taken; notes = no_notes image reached taken })))

pub returns-clause-can_be_added : goal.returns-clause-can_be_added
returns-clause-can_be_added c = noted_can_be_added _ _ _ _ _ _ _ c.loop-address.invariant.notes
