use Rattle.std.proofs.Common.{map, rules}
use Rattle.std.proofs.lemmas.List.{take_more}
use Rattle.std.proofs.lemmas.List.Elements.{All-push}
use Rattle.verify80.specs.Looking.{code_of}
use Rattle.verify80_calls.specs.Nodes.{HasItsCalls, heading_of}
use Rattle.verify80_calls.proofs.NodeLemmas.{one_more}
use Rattle.verify80_calls.proofs.graph.call_graph.append_nodes.Goals as goal

pub loop-row-preserved : goal.loop-row-preserved
loop-row-preserved c =
    let node = c.in_ok-row_node.field-0 in
    rw c.in_ok-push.ensures.items
    (record {
      headings = one_more (map heading_of c.args.nodes.now.items) c.loop-row.nodes.items node c.args.rows.now c.loop-row.row-index _
          (search (rules, take_more)) c.loop-row.invariant.headings c.in_ok-row_node.ensures.heading;
      calls = All-push (HasItsCalls (code_of c.args.vouched.now.image)) c.loop-row.nodes.items node c.loop-row.invariant.calls
          c.in_ok-row_node.ensures.calls;
    })
