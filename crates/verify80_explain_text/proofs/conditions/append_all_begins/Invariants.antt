use Rattle.std.proofs.Common.{◌≡◌, ◌++◌, take}
use Rattle.std.specs.List.{flat_map}
use Rattle.verify80_explain_text.specs.Conditions.{begins_line}
use Rattle.verify80_explain_text.proofs.conditions.append_all_begins.Given as goal

abbrev pub invariant-loop-begin : goal.invariant-loop-begin
invariant-loop-begin l = l.text.items ≡ l.initial.text.items ++ flat_map (begins_line l.image l.publics) (take l.begin-index l.begins)
