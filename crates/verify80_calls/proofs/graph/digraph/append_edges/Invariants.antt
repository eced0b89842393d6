use Rattle.std.proofs.Common.{◌≡◌, ◌++◌, take}
use Rattle.std.specs.List.{flat_map}
use Rattle.verify80_calls.specs.GraphText.{edges}
use Rattle.verify80_calls.proofs.graph.digraph.append_edges.Given as goal

abbrev pub invariant-loop-node : goal.invariant-loop-node
invariant-loop-node l = l.text.items ≡ l.initial.text.items ++ flat_map (edges l.chain) (take l.node-index l.nodes)
