use Rattle.verify80_follow.proofs.{GroundLemmas.ground_of, LiveLemmas.live_promise}
use Rattle.verify80_follow.proofs.laws.live_machines_keep_the_promise.Goals as goal

pub returns : goal.returns
returns c =
    let apart = c.code_data_and_stack_are_apart.ensures in
    record { promise = live_promise c.step_laws.ensures (ground_of apart.code_or_data apart.code_or_stack apart.data_or_stack) }
