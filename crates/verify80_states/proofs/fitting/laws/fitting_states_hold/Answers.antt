use Rattle.verify80_states.proofs.{MemoryLemmas.ground_of, KeepLemmas.run_keeps, KeepLemmas.is_kept}
use Rattle.verify80_states.proofs.fitting.laws.fitting_states_hold.Goals as goal

pub returns-clause-kept : goal.returns-clause-kept
returns-clause-kept c image quiet code returns variables table rules are quiet_data fits =
    let apart = c.code_data_and_stack_are_apart.ensures in
    is_kept image quiet code returns variables table (ground_of apart.code_or_data apart.code_or_stack apart.data_or_stack image.regions rules) are quiet_data fits c.bytes_stay_bytes.ensures.operands c.bytes_stay_bytes.ensures.length

pub returns-clause-keep : goal.returns-clause-keep
returns-clause-keep c image bytes quiet table sound walks kept start begins start_bytes most w from =
    run_keeps image bytes quiet table sound walks kept c.bytes_stay_bytes.ensures.bytes start begins start_bytes most w from
