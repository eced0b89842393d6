-- what is appended is shown on its conditions
use Rattle.std.specs.Prelude.{All}
use Rattle.verify80.specs.Looking.{code_of}
use Rattle.verify80_explain.specs.Conditions.{AreShownIf}
use Rattle.verify80_explain.proofs.further.show_further.Given as goal

abbrev pub invariant-loop-candidate : goal.invariant-loop-candidate
invariant-loop-candidate l = All (AreShownIf (code_of l.code)) l.initial.further.items → All (AreShownIf (code_of l.code)) l.further.items
