use Rattle.verify80_states.proofs.Names.{◌≡◌, ◌<◌, ℕ, true, in_range, in_data}
use Rattle.verify80_states.proofs.quiet.first_outside_data.Given as goal

abbrev pub invariant-loop-place : goal.invariant-loop-place
invariant-loop-place l = (at : ℕ) → at < l.place → in_range l.range at ≡ true → in_data l.regions at ≡ true
