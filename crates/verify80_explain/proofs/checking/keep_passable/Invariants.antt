-- what was kept so far is of the program
use Rattle.std.specs.Prelude.{All}
use Rattle.verify80.specs.Looking.{code_of}
use Rattle.verify80_explain.specs.Conditions.{IsPassable}
use Rattle.verify80_explain.proofs.checking.keep_passable.Given as goal

abbrev pub invariant-loop-at : goal.invariant-loop-at
invariant-loop-at l = All (IsPassable (code_of l.code)) l.kept.items
