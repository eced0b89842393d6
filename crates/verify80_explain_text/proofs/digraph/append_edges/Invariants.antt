use Rattle.std.proofs.Common.{◌≡◌, ◌++◌, take}
use Rattle.std.specs.List.{flat_map}
use Rattle.verify80.specs.Looking.{code_of}
use Rattle.verify80_explain_text.specs.ReachGraph.{edge_lines}
use Rattle.verify80_explain_text.proofs.digraph.append_edges.Given as goal

abbrev pub invariant-loop-point : goal.invariant-loop-point
invariant-loop-point l = l.text.items ≡ l.initial.text.items ++ flat_map (edge_lines (code_of l.code)) (take l.point-index l.points)
