use Rattle.std.proofs.Common.{◌≡◌, ◌++◌, take}
use Rattle.std.specs.List.{flat_map}
use Rattle.verify80_calls.specs.ListText.{node_line}
use Rattle.report80.proofs.stack.append_rows.Given as goal

abbrev pub invariant-loop-node : goal.invariant-loop-node
invariant-loop-node l = l.page ≡ l.initial.page ++ flat_map (node_line l.image l.publics) (take l.node-index l.nodes)
