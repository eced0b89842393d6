use Rattle.std.proofs.Common.{◌≡◌, ◌++◌, drop}
use Rattle.image80.specs.RegionsText.{cases_text}
use Rattle.image80.proofs.write.put_cases.Given as goal

-- the lines so far, and those of the cases that are left
abbrev pub invariant-loop-case : goal.invariant-loop-case
invariant-loop-case l = l.text.items ++ cases_text (drop l.case-index l.cases) ≡ l.initial.text.items ++ cases_text l.cases
