-- what was kept so far is of the program
use Rattle.std.specs.Prelude.{All}
use Rattle.verify80.specs.Looking.{code_of}
use Rattle.verify80_explain.specs.Conditions.{IsCalledIn}
use Rattle.verify80_explain.proofs.checking.keep_called.Given as goal

abbrev pub invariant-loop-entry : goal.invariant-loop-entry
invariant-loop-entry l = All (IsCalledIn (code_of l.code)) l.kept.items
