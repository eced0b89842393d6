use Rattle.std.specs.Prelude.{All}
use Rattle.verify80_bounds.specs.Chains.{IsModest}
use Rattle.verify80_bounds.specs.declared.graph.CallSite.{CallSite}
use Rattle.verify80_explain.proofs.links.sites.Given as goal

abbrev pub invariant-loop-call : goal.invariant-loop-call
invariant-loop-call g l = All (λ (s : CallSite). IsModest s.depth) l.sites.items
