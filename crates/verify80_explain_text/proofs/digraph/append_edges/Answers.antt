use Rattle.verify80.specs.Looking.{code_of}
use Rattle.verify80_explain_text.specs.ReachGraph.{edge_lines}
use Rattle.verify80_explain_text.proofs.LineLemmas.{one_more}
use Rattle.verify80_explain_text.proofs.digraph.append_edges.Goals as goal

pub loop-point-preserved : goal.loop-point-preserved
loop-point-preserved c =
    one_more (edge_lines (code_of c.args.code.now)) c.args.points.now
    c.args.text.now.items c.loop-point.text.items _ c.loop-point.point-index _ c.loop-point-test.true c.in_ok-append_edges_of.ensures c.loop-point.invariant
