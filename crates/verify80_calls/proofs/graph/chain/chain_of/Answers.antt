use Rattle.std.proofs.Common.{◌-◌, ◌++◌, List, ap, sym, ◌∙◌, arith}
use Rattle.frames80.specs.declared.procedure.Procedure.TheVariants.{Entry}
use Rattle.verify80_calls.specs.declared.graph.chain.Link.{Link}
use Rattle.verify80_calls.specs.Chain.{chain_from, chain_of}
use Rattle.verify80_calls.proofs.ChainLemmas.{goes_on}
use Rattle.verify80_calls.proofs.graph.chain.chain_of.Goals as goal

pub loop-left-preserved : goal.loop-left-preserved
loop-left-preserved c =
    let nodes = c.args.nodes.now in
    ap (λ (made : List Link). made ++ chain_from nodes (c.loop-left.left - 1) (Entry c.in-Some.call.target)) c.in_ok-push.ensures.items
    ∙ goes_on nodes c.loop-left.left c.loop-left.caller c.in-Some.call c.loop-left.chain.items (chain_of nodes)
    (omega (arith, c.loop-left-test.true)) (sym c.deepest_call.ensures ∙ c.in-Some.is) c.loop-left.invariant
