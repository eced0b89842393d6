use Rattle.std.proofs.Common.{◌∷◌, [], get_or, sym, subst}
use Rattle.std.specs.Prelude.{take}
use Rattle.std.proofs.lemmas.List.{take_more}
use Rattle.verify80_cases.specs.Reach.{Enters}
use Rattle.verify80_cases.proofs.ReachLemmas.{enters_both, enters_none}
use Rattle.verify80_cases.proofs.reach.Visited.enter_each.Goals as goal

pub loop-at-init : goal.loop-at-init
loop-at-init c = record { entered = enters_none c.args.self.now.marks.items c.args.self.now.order.items c.requires }

pub enter-requires : goal.enter-requires
enter-requires c = c.loop-at.invariant.entered.size

pub loop-at-preserved : goal.loop-at-preserved
loop-at-preserved c =
    let i = c.loop-at.at-index in
    let addresses = c.args.addresses.now in
    let marks = c.enter.new.self.marks.items in
    let order = c.enter.new.self.order.items in
    record {
      entered = subst (λ xs. Enters c.args.self.now.marks.items c.args.self.now.order.items xs marks order) (sym (take_more addresses i 0 c.loop-at-test.true))
          (enters_both c.args.self.now.marks.items c.args.self.now.order.items (take i addresses) c.loop-at.self.marks.items c.loop-at.self.order.items (get_or addresses i 0 ∷ []) marks order
          c.loop-at.invariant.entered c.in_ok-enter.ensures);
    }
