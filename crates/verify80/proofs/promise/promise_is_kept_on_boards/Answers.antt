use Rattle.verify80.proofs.BoardLemmas.{fitted_keeps_promise, fitted_steps_are_guarded}
use Rattle.verify80.proofs.BoardStarts.{promise_kept, steps_guarded, steps_respect}
use Rattle.verify80.proofs.StoreLemmas.{ground_of}
use Rattle.verify80.proofs.promise.promise_is_kept_on_boards.Goals as goal

pub returns-clause-promise : goal.returns-clause-promise
returns-clause-promise c = λ image bytes rules fitted enough.
    let apart = c.code_data_and_stack_are_apart.ensures in
    promise_kept image bytes (fitted_keeps_promise c.places_move.ensures.change c.places_move.ensures.call c.looks_are_exact.ensures.found c.fetch_reads_code_alone.ensures image bytes
    (ground_of apart.code_or_data apart.code_or_stack apart.data_or_stack image.regions rules) fitted enough)

pub returns-clause-steps : goal.returns-clause-steps
returns-clause-steps c = λ image bytes rules fitted enough.
    let apart = c.code_data_and_stack_are_apart.ensures in
    steps_guarded image bytes (fitted_keeps_promise c.places_move.ensures.change c.places_move.ensures.call c.looks_are_exact.ensures.found c.fetch_reads_code_alone.ensures image bytes
    (ground_of apart.code_or_data apart.code_or_stack apart.data_or_stack image.regions rules) fitted enough)
    (fitted_steps_are_guarded c.places_move.ensures.change c.places_move.ensures.call c.looks_are_exact.ensures.found c.fetch_reads_code_alone.ensures image bytes
    (ground_of apart.code_or_data apart.code_or_stack apart.data_or_stack image.regions rules) fitted enough)

pub returns-clause-unset : goal.returns-clause-unset
returns-clause-unset c = λ image bytes rules fitted enough.
    let apart = c.code_data_and_stack_are_apart.ensures in
    steps_respect image bytes (fitted_keeps_promise c.places_move.ensures.change c.places_move.ensures.call c.looks_are_exact.ensures.found c.fetch_reads_code_alone.ensures image bytes
    (ground_of apart.code_or_data apart.code_or_stack apart.data_or_stack image.regions rules) fitted enough)
