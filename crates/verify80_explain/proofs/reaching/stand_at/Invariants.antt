-- what was found so far is reached
use Rattle.std.specs.Prelude.{All}
use Rattle.verify80.specs.Looking.{code_of}
use Rattle.verify80_explain.specs.Reaching.{IsReachedAt}
use Rattle.verify80_explain.proofs.reaching.stand_at.Given as goal

abbrev pub invariant-loop-number : goal.invariant-loop-number
invariant-loop-number g l = All (IsReachedAt (code_of l.plain) (g.C.Code.code l.program)) l.found.items
