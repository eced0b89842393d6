use Rattle.std.proofs.Common.{◌≡◌, ◌++◌, codes, take}
use Rattle.std.specs.List.{flat_map}
use Rattle.verify80_explain_text.specs.Conditions.{condition_line}
use Rattle.verify80_explain_text.proofs.conditions.append_returning.Given as goal

abbrev pub invariant-loop-entry : goal.invariant-loop-entry
invariant-loop-entry l = l.text.items ≡ l.initial.text.items ++ flat_map (condition_line l.image l.publics (codes " RETURNS")) (take l.entry-index l.returning)
