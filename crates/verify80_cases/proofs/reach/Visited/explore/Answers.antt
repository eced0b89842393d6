use Rattle.std.proofs.Common.{◌≡◌, ◌<◌, arith, get_or, length, subst, sym}
use Rattle.std.proofs.lemmas.List.{get_or_read}
use Rattle.verify80_cases.proofs.ReachLemmas.{IsGoing, going_begun, going_done, going_on}
use Rattle.verify80_cases.proofs.reach.Visited.explore.Goals as goal

pub loop-number-init : goal.loop-number-init
loop-number-init c =
    let m = c.args.self.now.marks.items in
    let o = c.args.self.now.order.items in
    let m' = c.enter.new.self.marks.items in
    let o' = c.enter.new.self.order.items in
    let begun : length o ≡ c.len-number.result = omega (arith, c.len-number.ensures) in
    record {
      going = subst (λ n. IsGoing c.args.code.now m o c.args.at m' o' n) begun (going_begun c.args.code.now m o c.args.at m' o' c.in_ok-enter.ensures);
    }

pub loop-number-preserved : goal.loop-number-preserved
loop-number-preserved c =
    let number = c.loop-number.number in
    let m = c.loop-number.self.marks.items in
    let o = c.loop-number.self.order.items in
    let next = c.index-next.result.now in
    let below : number < length o = omega (arith, c.loop-number-test.true, c.len.ensures) in
    let here : get_or o number 0 ≡ next = sym (get_or_read o number next below c.index-next.ensures 0) in
    record {
      going = going_on c.args.code.now c.args.self.now.marks.items c.args.self.now.order.items c.args.at m o number next c.follow.new.self.marks.items c.follow.new.self.order.items
          below here c.loop-number.invariant.going c.in_ok-follow.ensures;
    }

pub returns : goal.returns
returns c =
    going_done c.args.code.now c.args.self.now.marks.items c.args.self.now.order.items c.args.at c.loop-number.self.marks.items c.loop-number.self.order.items c.loop-number.number
    (omega (arith, c.loop-number-test.false, c.len.ensures)) c.loop-number.invariant.going
