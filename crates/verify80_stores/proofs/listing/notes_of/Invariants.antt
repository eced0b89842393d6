use Rattle.verify80_stores.proofs.TallyLemmas.{Noted}
use Rattle.verify80_stores.proofs.listing.notes_of.Given as goal

abbrev pub invariant-loop-placed : goal.invariant-loop-placed
invariant-loop-placed l = Noted l.regions l.reached l.table l.placed-index l.notes.items
