use Rattle.verify80_stores.proofs.Names.{◌≡◌, ◌++◌, take, flat_map, quiet_line}
use Rattle.verify80_stores.proofs.lines.append_quiet.Given as goal

abbrev pub invariant-loop-range : goal.invariant-loop-range
invariant-loop-range l = l.text.items ≡ l.initial.text.items ++ flat_map quiet_line (take l.range-index l.quiet)
