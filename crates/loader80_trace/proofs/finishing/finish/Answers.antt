use Rattle.std.proofs.Common.{refl}
use Rattle.loader80_trace.proofs.StepLemmas.{full_where_refused, open_at_first, ran_limited, ran_on}
use Rattle.loader80_trace.proofs.finishing.finish.Goals as goal

pub returns-clause-run : goal.returns-clause-run
returns-clause-run c =
    ran_limited c.args.vouched.now.image _ c.args.limits.outputs c.args.limits.steps _ c.new-ports.result c.run-ended.new.ports _ c.run-ended.result.end c.new-ports.ensures.inputs c.new-ports.ensures.outputs
    (open_at_first c.args.limits.outputs c.new-ports.result c.new-ports.ensures.outputs c.new-ports.ensures.refused c.new-ports.ensures.limit) c.run-ended.ensures.ports
    (full_where_refused c.was_out_of_memory.result c.args.limits.outputs c.run-ended.new.ports c.was_out_of_memory.ensures c.if-was_out_of_memory.false) refl c.run-ended.ensures.run

pub returns-clause-goes_on : goal.returns-clause-goes_on
returns-clause-goes_on c = λ none.
    ran_on c.args.vouched.now.image _ c.args.limits.outputs c.args.limits.steps _ c.new-ports.result c.run-ended.new.ports _ c.run-ended.result.end c.new-ports.ensures.inputs c.new-ports.ensures.outputs
    (open_at_first c.args.limits.outputs c.new-ports.result c.new-ports.ensures.outputs c.new-ports.ensures.refused c.new-ports.ensures.limit) c.run-ended.ensures.ports
    (full_where_refused c.was_out_of_memory.result c.args.limits.outputs c.run-ended.new.ports c.was_out_of_memory.ensures c.if-was_out_of_memory.false) refl c.run-ended.ensures.run none
