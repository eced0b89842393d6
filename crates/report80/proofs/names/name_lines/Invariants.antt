use Rattle.std.proofs.Common.{◌≡◌}
use Rattle.report80.specs.PageText.{names_below}
use Rattle.report80.proofs.names.name_lines.Given as goal

abbrev pub invariant-loop-address : goal.invariant-loop-address
invariant-loop-address l = l.lines.items ≡ names_below l.publics l.address
