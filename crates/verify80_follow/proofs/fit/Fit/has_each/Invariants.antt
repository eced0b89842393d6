use Rattle.std.specs.Prelude.{ℕ, ◌<◌, ◌≤◌}
use Rattle.std.specs.Option.{option_map}
use Rattle.verify80_spans.specs.Span.{byte_alone}
use Rattle.verify80_states.specs.Known.{cut}
use Rattle.verify80_follow.specs.Follows.{Has}
use Rattle.verify80_follow.proofs.fit.Fit.has_each.Given as goal

abbrev pub invariant-loop-number : goal.invariant-loop-number
invariant-loop-number l = (byte : ℕ) → l.known.a.first ≤ byte → byte < l.number → Has l.self.table.now l.to (cut l.known (byte_alone byte)) l.beside (option_map (λ bytes. bytes.now) l.stack)
