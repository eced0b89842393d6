-- what is made, and what is left to make
use Rattle.std.proofs.Common.{◌≡◌, ◌++◌}
use Rattle.verify80_calls.specs.Chain.{chain_from, chain_of}
use Rattle.verify80_calls.proofs.graph.chain.chain_of.Given as goal

abbrev pub invariant-loop-left : goal.invariant-loop-left
invariant-loop-left l = l.chain.items ++ chain_from l.nodes l.left l.caller ≡ chain_of l.nodes

abbrev pub decreases-loop-left : goal.decreases-loop-left
decreases-loop-left l = l.left
