use Rattle.verify80_states.proofs.Names.{ℕ, ◌<◌, ◌≤◌, byte_alone, cut_state, Has}
use Rattle.verify80_states.proofs.fitting.fitting.Fit.has_each.Given as goal

abbrev pub invariant-loop-number : goal.invariant-loop-number
invariant-loop-number l = (byte : ℕ) → l.state.known.a.first ≤ byte → byte < l.number → Has l.self.variables.now l.self.table.now l.to (cut_state l.state (byte_alone byte))
