-- the lines so far
use Rattle.std.specs.Prelude.{◌≡◌, ◌++◌, map, take}
use Rattle.image80.specs.RegionsText.{cases_text}
use Rattle.verify80_cases.proofs.adding.add_lines.Given as goal

abbrev pub invariant-loop-case : goal.invariant-loop-case
invariant-loop-case l = l.text.items ≡ l.initial.text.items ++ cases_text (map (λ k. k.now) (take l.case-index l.cases))
