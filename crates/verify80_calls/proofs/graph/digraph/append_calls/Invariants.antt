use Rattle.std.proofs.Common.{◌≡◌, ◌++◌, take}
use Rattle.std.specs.List.{flat_map}
use Rattle.verify80_calls.specs.GraphText.{edge_line}
use Rattle.verify80_calls.proofs.graph.digraph.append_calls.Given as goal

abbrev pub invariant-loop-call : goal.invariant-loop-call
invariant-loop-call l = l.text.items ≡ l.initial.text.items ++ flat_map (edge_line l.chain l.caller) (take l.call-index l.calls)
