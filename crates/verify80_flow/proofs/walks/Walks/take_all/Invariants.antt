use Rattle.verify80_flow.specs.Walked.{AreWalked}
use Rattle.verify80_flow.proofs.walks.Walks.take_all.Given as goal

abbrev pub invariant-loop-step : goal.invariant-loop-step
invariant-loop-step g l = AreWalked (g.C.Code.code l.program) l.self
