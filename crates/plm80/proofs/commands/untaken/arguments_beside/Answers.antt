use Rattle.plm80.proofs.BesideLemmas.{more_stay}
use Rattle.plm80.proofs.commands.untaken.arguments_beside.Goals as goal

pub loop-argument-preserved : goal.loop-argument-preserved
loop-argument-preserved c =
    rw c.in_ok-push_any.ensures
    (more_stay c.args.boarded c.args.arguments.now c.loop-argument.kept.items c.loop-argument.argument-index _ c.argument_beside.result
    c.loop-argument-test.true c.loop-argument.invariant c.argument_beside.ensures)
