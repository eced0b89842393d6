use Rattle.verify80_states.proofs.Names.{ℕ, ◌<◌, AccountsAt, returns_of}
use Rattle.verify80_states.proofs.fitting.fitting.all_account.Given as goal

abbrev pub invariant-loop-at : goal.invariant-loop-at
invariant-loop-at l = (at : ℕ) → at < l.at → AccountsAt l.regions (returns_of l.returns) l.reached at
