use Rattle.std.proofs.Common.{◌≡◌, ◌++◌, take}
use Rattle.std.specs.List.{flat_map}
use Rattle.plm80_names.specs.Printed.{named_refusal_line}
use Rattle.plm80_programs.proofs.reached.append_refusals.Given as goal

abbrev pub invariant-loop-refusal : goal.invariant-loop-refusal
invariant-loop-refusal l = l.text.items ≡ l.initial.text.items ++ flat_map (named_refusal_line l.image.regions.code l.names) (take l.refusal-index l.refusals)
