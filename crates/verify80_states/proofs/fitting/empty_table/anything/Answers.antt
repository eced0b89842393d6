use Rattle.verify80_states.proofs.{MemoryLemmas.ground_of, TableLemmas.nothing_is_kept}
use Rattle.verify80_states.proofs.fitting.empty_table.anything.Goals as goal

pub returns : goal.returns
returns c quiet =
    let image = c.args.image.now in
    let apart = c.code_data_and_stack_are_apart.ensures in
    nothing_is_kept image quiet c.args.reached.now c.in_ok-table.table.items c.requires.reached c.requires.whole (ground_of apart.code_or_data apart.code_or_stack apart.data_or_stack image.regions c.requires.rules)
    c.bytes_stay_bytes.ensures.operands c.bytes_stay_bytes.ensures.length c.in_ok-table.ensures
