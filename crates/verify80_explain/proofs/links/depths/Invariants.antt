use Rattle.std.specs.Prelude.{All}
use Rattle.verify80_bounds.specs.Chains.{IsModest}
use Rattle.verify80_bounds.specs.declared.graph.Depth.{Depth}
use Rattle.verify80_explain.proofs.links.depths.Given as goal

abbrev pub invariant-loop-point : goal.invariant-loop-point
invariant-loop-point g l = All (λ (d : Depth). IsModest d.depth) l.depths.items
