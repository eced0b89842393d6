use Rattle.verify80_stores.proofs.Names.{slice_get-get_or}
use Rattle.verify80_stores.proofs.TallyLemmas.{none_noted, more_noted, all_noted}
use Rattle.verify80_stores.proofs.listing.notes_of.Goals as goal

pub loop-placed-init : goal.loop-placed-init
loop-placed-init c = none_noted c.args.regions.now c.args.reached.now c.args.table.now c.in_ok-notes.notes.items c.in_ok-notes.ensures.count c.in_ok-notes.ensures.none

pub loop-placed-preserved : goal.loop-placed-preserved
loop-placed-preserved c =
    rw c.from.ensures
    (more_noted c.args.regions.now c.args.reached.now c.args.table.now c.loop-placed.placed-index c.loop-placed.notes.items _ c.with.result (slice_get-get_or c.args.table.now c.loop-placed.placed-index _ c.loop-placed-test.true) c.loop-placed.invariant
    c.with.ensures.address (rw (c.note_at-note.ensures, c.deref.ensures.value) at c.with.ensures.leaves) (rw (c.note_at-note.ensures, c.deref.ensures.value) at c.with.ensures.stays) (rw (c.note_at-note.ensures, c.deref.ensures.value) at c.with.ensures.span))

pub returns : goal.returns
returns c = all_noted c.args.regions.now c.args.reached.now c.args.table.now c.loop-placed.placed-index c.loop-placed.notes.items c.loop-placed-test.false c.loop-placed.invariant
