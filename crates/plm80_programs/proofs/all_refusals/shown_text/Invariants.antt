-- the lines so far
use Rattle.plm80_programs.proofs.Names.{◌≡◌, take, flat_map, shown_lines}
use Rattle.plm80_programs.proofs.all_refusals.shown_text.Given as goal

abbrev pub invariant-loop-one : goal.invariant-loop-one
invariant-loop-one l = l.text.items ≡ flat_map (shown_lines l.image l.names) (take l.one-index l.shown)
