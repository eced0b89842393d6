use Rattle.place80.proofs.LayoutLemmas.{layout_has}
use Rattle.place80.proofs.PlaceLemmas.{module_laws, place_of_id}
use Rattle.place80.proofs.laws.segments_are_placed.Goals as goal

pub returns-clause-placed : goal.returns-clause-placed
returns-clause-placed c = layout_has

pub returns-clause-places : goal.returns-clause-places
returns-clause-places c = place_of_id
    (module_laws c.sound_modules_keep_rules.ensures c.commons_are_found_by_name.ensures c.parts_of_one_start_at_zero.ensures)
