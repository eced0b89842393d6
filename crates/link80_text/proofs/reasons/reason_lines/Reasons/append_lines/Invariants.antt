-- the lines so far
use Rattle.std.specs.Prelude.{map}
use Rattle.link80_text.specs.Found.{PrintsLines}
use Rattle.link80_text.proofs.reasons.reason_lines.Reasons.append_lines.Given as goal

abbrev pub invariant-loop-number : goal.invariant-loop-number
invariant-loop-number l = PrintsLines l.self (map (λ p. p.now) l.paths) l.number l.initial.text.items l.text.items
