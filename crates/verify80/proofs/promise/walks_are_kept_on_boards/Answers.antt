use Rattle.verify80.specs.Looking.{code_of}
use Rattle.verify80.proofs.BoardLemmas.{fitted_keeps_promise, fitted_keeps_to_walks}
use Rattle.verify80.proofs.BoardStarts.{walks_kept}
use Rattle.verify80.proofs.StoreLemmas.{ground_of}
use Rattle.verify80.proofs.promise.walks_are_kept_on_boards.Goals as goal

pub returns : goal.returns
returns c = λ image listed bytes rules accepted.
    let apart = c.code_data_and_stack_are_apart.ensures in
    walks_kept image bytes (fitted_keeps_promise c.places_move.ensures.change c.places_move.ensures.call c.looks_are_exact.ensures.found c.fetch_reads_code_alone.ensures image bytes
    (ground_of apart.code_or_data apart.code_or_stack apart.data_or_stack image.regions rules) accepted.fitted accepted.within)
    (fitted_keeps_to_walks c.places_move.ensures.change c.places_move.ensures.call c.looks_are_exact.ensures.found c.fetch_reads_code_alone.ensures image bytes
    (ground_of apart.code_or_data apart.code_or_stack apart.data_or_stack image.regions rules) accepted.fitted (c.fitting_tables_cover_walks.ensures.no_fault (code_of image) accepted.fitted.table accepted.fitted.fits) accepted.within)
