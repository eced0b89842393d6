-- what was appended so far is reached
use Rattle.std.specs.Prelude.{All}
use Rattle.verify80.specs.Looking.{code_of}
use Rattle.verify80_explain.specs.Reaching.{IsReachedOn}
use Rattle.verify80_explain.proofs.reaching.reach_from_each.Given as goal

abbrev pub invariant-loop-number : goal.invariant-loop-number
invariant-loop-number l = All (IsReachedOn (code_of l.code) l.begins l.conditions) l.initial.points.items
    → All (IsReachedOn (code_of l.code) l.begins l.conditions) l.points.items
