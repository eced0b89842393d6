-- the lines so far
use Rattle.plm80_programs.proofs.Names.{◌≡◌, ◌++◌, take, flat_map}
use Rattle.plm80_programs.specs.Explanations.{conditional_lines}
use Rattle.plm80_programs.proofs.all_refusals.append_group.Given as goal

abbrev pub invariant-loop-one : goal.invariant-loop-one
invariant-loop-one l = l.text.items ≡ l.initial.text.items ++ flat_map (conditional_lines l.image l.names l.group.conditions) (take l.one-index l.group.shown.items)
