use Rattle.verify80_states.proofs.Names.{refl, below_more, AccountsAt, returns_of}
use Rattle.verify80_states.proofs.fitting.fitting.all_account.Goals as goal

pub loop-at-preserved : goal.loop-at-preserved
loop-at-preserved c = below_more (AccountsAt c.args.regions.now (returns_of c.args.returns.now) c.args.reached.now) c.loop-at.at c.loop-at.invariant (c.if-not-accounts_at.ensures refl)
