use Rattle.std.proofs.Common.{List, arith, ◌∙◌, subst}
use Rattle.std.proofs.lemmas.List.{length-set, take_all}
use Rattle.verify80_bounds.specs.declared.graph.CallSite.{CallSite}
use Rattle.verify80_bounds.specs.Sums.{AreFollowed}
use Rattle.verify80_bounds.proofs.FollowLemmas.{follow_none, follow_at}
use Rattle.verify80_bounds.proofs.cycles.next_calls.Goals as goal

pub loop-call-init : goal.loop-call-init
loop-call-init c = (follow_none c.args.calls.now c.in_ok-next.next.items, c.in_ok-next.ensures.places)

pub index_mut-requires : goal.index_mut-requires
index_mut-requires c = omega (arith, c.loop-call.invariant.1, c.slot-caller.ensures.within)

pub loop-call-preserved : goal.loop-call-preserved
loop-call-preserved c = (
  follow_at c.args.calls.now c.loop-call.next.items c.loop-call.call-index c.slot-caller.result c.loop-call-test.true c.slot-caller.ensures.is
      (omega (arith, c.loop-call.invariant.1, c.slot-caller.ensures.within)) c.loop-call.invariant.0,
  length-set c.loop-call.next.items c.slot-caller.result _ ∙ c.loop-call.invariant.1,
)

pub returns-clause-followed : goal.returns-clause-followed
returns-clause-followed c =
    subst (λ (l : List CallSite). AreFollowed c.args.calls.now l c.loop-call.next.items)
    (take_all c.loop-call.call-index c.args.calls.now (omega (arith, c.loop-call-test.false))) c.loop-call.invariant.0

pub returns-clause-places : goal.returns-clause-places
returns-clause-places c = c.loop-call.invariant.1
