use Rattle.verify80.specs.Looking.{code_of}
use Rattle.verify80.proofs.Along.{fitted_stays_on_walks}
use Rattle.verify80.proofs.StoreLemmas.{ground_of}
use Rattle.verify80.proofs.promise.accepted_images_stay_on_walks.Goals as goal

pub returns : goal.returns
returns c = λ image listed bytes rules accepted.
    let apart = c.code_data_and_stack_are_apart.ensures in
    fitted_stays_on_walks c.places_move.ensures.change c.places_move.ensures.call c.looks_are_exact.ensures.found c.fetch_reads_code_alone.ensures image bytes
    (ground_of apart.code_or_data apart.code_or_stack apart.data_or_stack image.regions rules) accepted.fitted (c.fitting_tables_cover_walks.ensures.no_fault (code_of image) accepted.fitted.table accepted.fitted.fits) accepted.within
