use Rattle.std.proofs.Common.{sym, subst, List}
use Rattle.std.specs.Prelude.{All}
use Rattle.verify80_bounds.specs.declared.graph.Depth.{Depth}
use Rattle.verify80_bounds.specs.declared.graph.CallSite.{CallSite}
use Rattle.verify80_bounds.specs.Chains.{IsModest}
use Rattle.verify80_flow.specs.Graph.{IsGraph}
use Rattle.verify80_flow.proofs.CycleLemmas.{are_bounds, none_recurs, recurs}
use Rattle.verify80_flow.proofs.GraphLemmas.{modest_depths, modest_calls, are_graph}
use Rattle.verify80_flow.proofs.Slices.{within}
use Rattle.verify80_flow.proofs.stack.bound_stack.Goals as goal

pub find_bounds-requires-clause-depths : goal.find_bounds-requires-clause-depths
find_bounds-requires-clause-depths g c =
    let graph = c.in_ok-graph.graph in
    subst (λ (ds : List Depth). All (λ (d : Depth). IsModest d.depth) ds) (sym c.deref.ensures.value)
    (modest_depths (g.C.Code.code c.args.program.now) c.args.table.now.known c.args.wants.now graph.depths.items graph.calls.items c.requires.filled.small c.in_ok-graph.ensures.surveyed)

pub find_bounds-requires-clause-calls : goal.find_bounds-requires-clause-calls
find_bounds-requires-clause-calls g c =
    let graph = c.in_ok-graph.graph in
    subst (λ (cs : List CallSite). All (λ (d : CallSite). IsModest d.depth) cs) (sym c.deref-2.ensures.value)
    (modest_calls (g.C.Code.code c.args.program.now) c.args.table.now.known c.args.wants.now graph.depths.items graph.calls.items c.requires.filled.small c.in_ok-graph.ensures.surveyed)

pub returns-in-Ok-clause-bounded : goal.returns-in-Ok-clause-bounded
returns-in-Ok-clause-bounded g c =
    let code = g.C.Code.code c.args.program.now in
    let known = c.args.table.now.known in
    let depths = c.in_ok-graph.graph.depths.items in
    let calls = c.in_ok-graph.graph.calls.items in
    let survey = c.in_ok-graph.ensures.surveyed in
    let graph = are_graph c.frame_laws.ensures code known c.args.wants.now depths calls c.requires.filled survey in
    let handed =
    subst (λ (ds : List Depth). IsGraph code ds c.deref-2.result.now) (sym c.deref.ensures.value)
    (subst (λ (cs : List CallSite). IsGraph code depths cs) (sym c.deref-2.ensures.value) graph) in
    record {
      bounds = are_bounds code c.deref.result.now c.deref-2.result.now c.in-Ok.bounds handed c.in-Ok.ensures.bounds;
      ends = none_recurs code c.deref.result.now c.deref-2.result.now handed c.in-Ok.ensures.no_cycle;
      words = λ i point target next there call. survey.words i point target next (within known.points i point there) there call;
      addresses = survey.addresses;
    }

pub returns-in-Err-Recursion-clause-refused : goal.returns-in-Err-Recursion-clause-refused
returns-in-Err-Recursion-clause-refused g c =
    let code = g.C.Code.code c.args.program.now in
    let depths = c.in_ok-graph.graph.depths.items in
    let calls = c.in_ok-graph.graph.calls.items in
    let graph = are_graph c.frame_laws.ensures code c.args.table.now.known c.args.wants.now depths calls c.requires.filled c.in_ok-graph.ensures.surveyed in
    let handed =
    subst (λ (ds : List Depth). IsGraph code ds c.deref-2.result.now) (sym c.deref.ensures.value)
    (subst (λ (cs : List CallSite). IsGraph code depths cs) (sym c.deref-2.ensures.value) graph) in
    let fault = rw c.in-Err-Recursion.field-0-is at c.in-Err-Recursion.ensures.fault in
    recurs code c.deref.result.now c.deref-2.result.now c.in-Err-Recursion.at handed fault
