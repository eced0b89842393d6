use Rattle.verify80_stores.proofs.Names.{◌≡◌, ◌++◌, take, flat_map, jump_line}
use Rattle.verify80_stores.proofs.lines.append_jumps.Given as goal

abbrev pub invariant-loop-at : goal.invariant-loop-at
invariant-loop-at l = l.text.items ≡ l.initial.text.items ++ flat_map jump_line (take l.at-index l.jumps)
