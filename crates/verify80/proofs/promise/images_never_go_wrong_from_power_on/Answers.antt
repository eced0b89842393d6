use Rattle.verify80.proofs.Headline.{fitted_never_goes_wrong_from_power_on}
use Rattle.verify80.proofs.StoreLemmas.{ground_of}
use Rattle.verify80.proofs.promise.images_never_go_wrong_from_power_on.Goals as goal

pub returns : goal.returns
returns c = λ image bytes rules fitted enough.
    let apart = c.code_data_and_stack_are_apart.ensures in
    fitted_never_goes_wrong_from_power_on c.places_move.ensures.change c.places_move.ensures.call c.looks_are_exact.ensures.found c.fetch_reads_code_alone.ensures image bytes
    (ground_of apart.code_or_data apart.code_or_stack apart.data_or_stack image.regions rules) fitted enough
