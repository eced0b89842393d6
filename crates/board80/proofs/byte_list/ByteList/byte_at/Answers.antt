use Rattle.std.proofs.Common.{◌≡◌, ◌∙◌, ◌<◌, ◌≤◌, List, length, get_or, ap, sym, subst, arith}
use Rattle.board80.specs.declared.byte_list.Item.{Item}
use Rattle.board80.specs.ByteList.{ListedBytes}
use Rattle.board80.proofs.AnswerLemmas.{byte_here, byte_last, byte_later}
use Rattle.board80.proofs.byte_list.ByteList.byte_at.Goals as goal

pub returns-then-left-count : goal.returns-then-left-count
returns-then-left-count c =
    let same : c.deref-item-items.result.now ≡ c.args.self.now.items = c.deref-item-items.ensures.value ∙ ap (λ (l : ListedBytes). l.items) c.self.view_is in
    rw (c.at.ensures, c.count-count.ensures.count)
    (byte_here c.args.self.now c.loop-item.item-index c.args.index c.loop-item.left c.item-item.result
    (subst (λ (xs : List Item). c.loop-item.item-index < length xs) same c.loop-item-test.true)
    (subst (λ (xs : List Item). c.item-item.result ≡ get_or xs c.loop-item.item-index c.item-item.result) same c.item-item.is)
    (rw (← c.count-count.ensures.count) c.if-left-count.true) c.loop-item.invariant.same)

pub loop-item-preserved : goal.loop-item-preserved
loop-item-preserved c =
    let same : c.deref-item-items.result.now ≡ c.args.self.now.items = c.deref-item-items.ensures.value ∙ ap (λ (l : ListedBytes). l.items) c.self.view_is in
    record {
      below = (let before = c.loop-item.invariant.below in omega arith);
      same = rw c.count-count.ensures.count
          (byte_later c.args.self.now.items c.loop-item.item-index c.args.index c.loop-item.left c.item-item.result
          (subst (λ (xs : List Item). c.loop-item.item-index < length xs) same c.loop-item-test.true)
          (subst (λ (xs : List Item). c.item-item.result ≡ get_or xs c.loop-item.item-index c.item-item.result) same c.item-item.is)
          (rw (← c.count-count.ensures.count) c.if-left-count.false) c.loop-item.invariant.same);
    }

pub returns-in-Some : goal.returns-in-Some
returns-in-Some c =
    let same : c.deref-item-items.result.now ≡ c.args.self.now.items = c.deref-item-items.ensures.value ∙ ap (λ (l : ListedBytes). l.items) c.self.view_is in
    rw (c.at-in-Some.ensures, c.count.ensures.count)
    (byte_last c.args.self.now c.in-Some.bytes c.loop-item.item-index c.args.index c.loop-item.left
    (subst (λ (xs : List Item). length xs ≤ c.loop-item.item-index) same c.loop-item-test.false)
    (sym (ap (λ (l : ListedBytes). l.for_ever) c.self.view_is) ∙ c.in-Some.is) c.loop-item.invariant.below c.loop-item.invariant.same)
