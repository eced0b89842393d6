use Rattle.std.proofs.Common.{◌≡◌}
use Rattle.report80.proofs.drawing.append_lines.Given as goal

abbrev pub invariant-loop-edge : goal.invariant-loop-edge
invariant-loop-edge l = l.page ≡ l.initial.page
