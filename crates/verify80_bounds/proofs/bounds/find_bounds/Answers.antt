use Rattle.std.proofs.Common.{subst, sym, List}
use Rattle.verify80_bounds.specs.declared.graph.CallSite.{CallSite}
use Rattle.verify80_bounds.specs.Sums.{AreSums}
use Rattle.verify80_bounds.specs.Chains.{Cycles}
use Rattle.verify80_bounds.proofs.SumLemmas.{no_items}
use Rattle.verify80_bounds.proofs.EndLemmas.{are_greatest, no_cycle}
use Rattle.verify80_bounds.proofs.FollowLemmas.{cycles_of}
use Rattle.verify80_bounds.proofs.bounds.find_bounds.Goals as goal

pub returns-then-is_empty-clause-bounds : goal.returns-then-is_empty-clause-bounds
returns-then-is_empty-clause-bounds c = λ entered.
    let none = no_items c.in_ok-bytes.pending.items c.in_ok-bytes.pending.len c.in_ok-bytes.pending.ok.0 (sym c.if-is_empty.ensures) in
    are_greatest c.args.depths.now c.args.calls.now c.in_ok-bytes.bytes.items
    (subst (λ (l : List CallSite). AreSums c.args.depths.now c.args.calls.now c.in_ok-bytes.bytes.items l) none c.in_ok-bytes.ensures.sums) entered

pub returns-then-is_empty-clause-no_cycle : goal.returns-then-is_empty-clause-no_cycle
returns-then-is_empty-clause-no_cycle c = λ at cycle.
    let none = no_items c.in_ok-bytes.pending.items c.in_ok-bytes.pending.len c.in_ok-bytes.pending.ok.0 (sym c.if-is_empty.ensures) in
    no_cycle c.args.depths.now c.args.calls.now c.in_ok-bytes.bytes.items
    (subst (λ (l : List CallSite). AreSums c.args.depths.now c.args.calls.now c.in_ok-bytes.bytes.items l) none c.in_ok-bytes.ensures.sums) at cycle

pub returns-in_ok-at-clause-fault : goal.returns-in_ok-at-clause-fault
returns-in_ok-at-clause-fault c =
    cycles_of c.args.calls.now c.in_ok-bytes.pending.items c.in_ok-at.at c.in_ok-bytes.ensures.sums.of_list
    (subst (λ (l : List CallSite). Cycles l c.in_ok-at.at) c.deref.ensures.value c.in_ok-at.ensures)
