use Rattle.std.proofs.Common.{◌≡◌, ◌++◌, take, map, All}
use Rattle.verify80.specs.Looking.{code_of}
use Rattle.verify80_calls.specs.Nodes.{HasItsCalls, heading_of, row_heading}
use Rattle.verify80_calls.proofs.graph.call_graph.append_nodes.Given as goal

abbrev pub invariant-loop-row : goal.invariant-loop-row
invariant-loop-row l = record {
  headings : map heading_of l.nodes.items ≡ map heading_of l.initial.nodes.items ++ map row_heading (take l.row-index l.rows);
  calls : All (HasItsCalls (code_of l.vouched.image)) l.nodes.items;
}
