-- how many refusals there are so far
use Rattle.plm80_programs.proofs.Names.{◌≡◌, take}
use Rattle.plm80_programs.specs.Explanations.{further_count}
use Rattle.plm80_programs.proofs.all_refusals.append_further_count.Given as goal

abbrev pub invariant-loop-group : goal.invariant-loop-group
invariant-loop-group l = l.count ≡ further_count (take l.group-index l.further)
