use Rattle.std.proofs.Common.{◌≡◌, ◌++◌, take}
use Rattle.std.specs.List.{flat_map}
use Rattle.verify80_calls.specs.ListText.{node_lines}
use Rattle.verify80_calls.proofs.graph.lines.append_nodes.Given as goal

abbrev pub invariant-loop-node : goal.invariant-loop-node
invariant-loop-node l = l.text.items ≡ l.initial.text.items ++ flat_map (node_lines l.image l.publics l.nodes) (take l.node-index l.nodes)
