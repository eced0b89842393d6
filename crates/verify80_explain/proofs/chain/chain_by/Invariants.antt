use Rattle.std.specs.Prelude.{reverse}
use Rattle.verify80_explain.specs.Chains.{IsChain}
use Rattle.verify80_explain.proofs.chain.chain_by.Given as goal

abbrev pub invariant-loop-number : goal.invariant-loop-number
invariant-loop-number g l = IsChain (g.C.Code.code l.program) l.procedure (reverse l.calls.items) l.last l.sum
