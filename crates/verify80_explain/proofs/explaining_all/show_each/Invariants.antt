-- what is appended is shown
use Rattle.std.specs.Prelude.{All}
use Rattle.verify80_explain.specs.Shows.{IsShown}
use Rattle.verify80_explain.proofs.explaining_all.show_each.Given as goal

abbrev pub invariant-loop-found : goal.invariant-loop-found
invariant-loop-found g l = All (IsShown (g.C.Code.code l.program)) l.initial.shown.items → All (IsShown (g.C.Code.code l.program)) l.shown.items
