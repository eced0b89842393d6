-- the lines so far
use Rattle.plm80_programs.proofs.Names.{◌≡◌, ◌++◌, take, flat_map}
use Rattle.plm80_programs.specs.Explanations.{further_lines}
use Rattle.plm80_programs.proofs.all_refusals.append_further.Given as goal

abbrev pub invariant-loop-group : goal.invariant-loop-group
invariant-loop-group l = l.text.items ≡ l.initial.text.items ++ flat_map (further_lines l.image l.names) (take l.group-index l.further)
