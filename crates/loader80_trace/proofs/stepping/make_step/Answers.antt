use Rattle.std.proofs.Common.{refl}
use Rattle.loader80_trace.proofs.StepLemmas.{full_where_refused, step_made}
use Rattle.loader80_trace.proofs.stepping.make_step.Goals as goal

pub returns-clause-step : goal.returns-clause-step
returns-clause-step c = λ stays.
    step_made c.args.rules.now.regions.now c.args.rules.now.outputs _ _ c.args.ports.now c.quick_advance-advanced.new.ports c.quick_advance-advanced.result.steps
    c.quick_advance-advanced.result.end refl c.requires.open c.quick_advance-advanced.ensures.ports
    (full_where_refused c.was_out_of_memory.result c.args.rules.now.outputs c.quick_advance-advanced.new.ports c.was_out_of_memory.ensures c.if-was_out_of_memory.false)
    c.quick_advance-advanced.ensures.run stays
