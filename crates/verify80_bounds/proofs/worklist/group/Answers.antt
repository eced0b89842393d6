use Rattle.std.proofs.Common.{List, get_or, take, set, ◌++◌, ◌∷◌, [], ◌+◌, ◌∙◌, ap, sym, subst, arith}
use Rattle.std.proofs.lemmas.List.{map-set, length-map, get_or_read}
use Rattle.verify80_bounds.specs.declared.graph.CallSite.{CallSite}
use Rattle.verify80_bounds.specs.Sums.{AreGrouped}
use Rattle.verify80_bounds.proofs.ListLemmas.{items_of, lists_of, list_at}
use Rattle.verify80_bounds.proofs.SumLemmas.{none_of, no_call}
use Rattle.verify80_bounds.proofs.WorklistLemmas.{grouped_first, grouped_at, no_lists, count_few}
use Rattle.verify80_bounds.proofs.worklist.group.Goals as goal

pub loop-call-init : goal.loop-call-init
loop-call-init c =
    grouped_first _ c.in_ok-counts.counts.items (length-map c.in_ok-callers.callers.items _ ∙ c.in_ok-callers.ensures.places) c.in_ok-counts.ensures.places
    (no_lists _ c.in_ok-callers.callers.items c.in_ok-callers.ensures.none) (none_of c.in_ok-counts.counts.items 0 c.in_ok-counts.ensures.values)

pub overflow_add-index_mut : goal.overflow_add-index_mut
overflow_add-index_mut c =
    let l = c.loop-call in
    let read = get_or_read l.counts.items c.slot-caller.result c.index_mut-in-loop-call.result.now
    (omega (arith, c.slot-caller.ensures.within, l.invariant.counted.count_places)) c.index_mut-in-loop-call.ensures.value 0 in
    let few = count_few c.args.calls.now _ l.counts.items l.call-index c.slot-caller.result c.loop-call-test.true c.requires l.invariant in
    omega (arith, read, few)

pub loop-call-preserved : goal.loop-call-preserved
loop-call-preserved c =
    let l = c.loop-call in
    let places = length-map l.callers.items items_of in
    let read = get_or_read l.counts.items c.slot-caller.result c.index_mut-in-loop-call.result.now
    (omega (arith, c.slot-caller.ensures.within, l.invariant.counted.count_places)) c.index_mut-in-loop-call.ensures.value 0 in
    let list = c.in_ok-push.ensures.items
    ∙ ap (λ (calls : List CallSite). calls ++ get_or c.args.calls.now l.call-index no_call ∷ [])
    (ap items_of c.index_mut.ensures.value ∙ sym (list_at l.callers.items c.slot.result c.index_mut.result.now (omega (arith, c.slot.ensures.within, places, l.invariant.counted.places)))) in
    subst (λ (lists : List (List CallSite)). AreGrouped (take (l.call-index + 1) c.args.calls.now) lists (set l.counts.items c.slot-caller.result (c.index_mut-in-loop-call.result.now + 1)))
    (sym (map-set items_of l.callers.items c.slot.result c.push.new.self))
    (grouped_at c.args.calls.now (lists_of l.callers.items) l.counts.items l.call-index c.slot.result c.slot-caller.result c.push.new.self.items c.index_mut-in-loop-call.result.now
    c.loop-call-test.true c.slot.ensures.is c.slot-caller.ensures.is c.slot.ensures.within c.slot-caller.ensures.within list read l.invariant)
