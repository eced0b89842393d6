use Rattle.std.proofs.Common.{take}
use Rattle.image80.specs.RegionsText.{case_lines}
use Rattle.image80.proofs.CasesLemmas.{AreDrawn}
use Rattle.image80.proofs.read.cases_of.Given as goal

-- the cases of the lines so far, in their order
abbrev pub invariant-loop-entry : goal.invariant-loop-entry
invariant-loop-entry l = AreDrawn (case_lines (take l.entry-index l.entries)) l.cases.items
