use Rattle.std.proofs.Common.{◌≡◌, ◌++◌, codes, take}
use Rattle.std.specs.List.{flat_map}
use Rattle.verify80_explain_text.specs.Conditions.{condition_line}
use Rattle.verify80_explain_text.proofs.conditions.append_passed.Given as goal

abbrev pub invariant-loop-at : goal.invariant-loop-at
invariant-loop-at l = l.text.items ≡ l.initial.text.items ++ flat_map (condition_line l.image l.publics (codes " IS PASSED OVER")) (take l.at-index l.passed)
