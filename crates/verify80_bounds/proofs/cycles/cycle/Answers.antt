use Rattle.std.proofs.Common.{arith, ℕ, false, get_or, ◌∙◌, ap, sym}
use Rattle.std.proofs.lemmas.List.{get_or_read}
use Rattle.std.proofs.lemmas.List.Elements.{Contains-get_or}
use Rattle.verify80_bounds.proofs.FollowLemmas.{fewer_unmet, following_first, following_next, following_end}
use Rattle.verify80_bounds.proofs.SumLemmas.{no_call, none_of}
use Rattle.verify80_bounds.proofs.cycles.cycle.Goals as goal

pub loop-caller-init : goal.loop-caller-init
loop-caller-init c = following_first c.args.calls.now c.in_ok-next.next.items c.in_ok-met.met.items _ c.slot.result c.index-call.result.now c.in_ok-next.ensures.followed
    (Contains-get_or c.args.calls.now 0 no_call c.requires.some) c.slot.ensures.is (omega (arith, c.slot.ensures.within, c.in_ok-next.ensures.places)) c.index-call.ensures
    (none_of c.in_ok-met.met.items false c.in_ok-met.ensures.values) c.in_ok-next.ensures.places c.in_ok-met.ensures.places

pub loop-caller-preserved : goal.loop-caller-preserved
loop-caller-preserved c = following_next c.args.calls.now c.in_ok-next.next.items c.loop-caller.met.items c.loop-caller.call c.slot-caller.result c.slot-in-loop-caller-2.result
    c.index-call-in-loop-caller.result.now c.requires.stuck c.loop-caller.invariant c.slot-caller.ensures.is
    (omega (arith, c.slot-caller.ensures.within, c.loop-caller.invariant.met_places)) c.slot-in-loop-caller-2.ensures.is
    (omega (arith, c.slot-in-loop-caller-2.ensures.within, c.in_ok-next.ensures.places)) c.index-call-in-loop-caller.ensures

pub returns : goal.returns
returns c =
    let read = get_or_read c.loop-caller.met.items c.slot-in-loop-caller.result c.index.result.now
    (omega (arith, c.slot-in-loop-caller.ensures.within, c.loop-caller.invariant.met_places)) c.index.ensures false in
    following_end c.args.calls.now c.in_ok-next.next.items c.loop-caller.met.items c.loop-caller.call c.slot-in-loop-caller.result c.loop-caller.invariant
    c.slot-in-loop-caller.ensures.is (sym read ∙ c.loop-caller-test.false)

pub index-requires : goal.index-requires
index-requires c = omega (arith, c.slot-in-loop-caller.ensures.within, c.loop-caller.invariant.met_places)

pub index_mut-requires : goal.index_mut-requires
index_mut-requires c = omega (arith, c.slot-caller.ensures.within, c.loop-caller.invariant.met_places)

pub index-call-requires-in-loop-caller : goal.index-call-requires-in-loop-caller
index-call-requires-in-loop-caller c = omega (arith, c.slot-in-loop-caller-2.ensures.within, c.in_ok-next.ensures.places)

pub loop-caller-smaller : goal.loop-caller-smaller
loop-caller-smaller c =
    let met = c.loop-caller.met.items in
    let same = c.slot-caller.ensures.is ∙ sym c.slot-in-loop-caller.ensures.is in
    let read = get_or_read met c.slot-in-loop-caller.result c.index.result.now
    (omega (arith, c.slot-in-loop-caller.ensures.within, c.loop-caller.invariant.met_places)) c.index.ensures false in
    fewer_unmet met c.slot-caller.result (omega (arith, c.slot-caller.ensures.within, c.loop-caller.invariant.met_places))
    (ap (λ (k : ℕ). get_or met k false) same ∙ sym read ∙ c.loop-caller-test.true)
