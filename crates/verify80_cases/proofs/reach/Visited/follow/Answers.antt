use Rattle.std.proofs.Common.{◌++◌, ◌∙◌, sym, subst}
use Rattle.verify80.specs.Looking.{declared_targets}
use Rattle.verify80_cases.specs.Reach.{Enters, falls_to, given, target_of, targets_of}
use Rattle.verify80_cases.proofs.ReachLemmas.{enters_both, leads_found}
use Rattle.verify80_cases.proofs.reach.Visited.follow.Goals as goal

pub returns : goal.returns
returns c =
    let image = c.args.code.now in
    let at = c.args.at in
    let found = c.in-Ok.found in
    let m = c.args.self.now.marks.items in
    let o = c.args.self.now.order.items in
    let m1 = c.enter_given.new.self.marks.items in
    let o1 = c.enter_given.new.self.order.items in
    let m2 = c.enter_given-2.new.self.marks.items in
    let o2 = c.enter_given-2.new.self.order.items in
    let m3 = c.enter_each.new.self.marks.items in
    let o3 = c.enter_each.new.self.order.items in
    let named = given (target_of found.instr) in
    let behind = given (falls_to found.instr found.next) in
    let targets = targets_of found.instr (declared_targets image.regions at) in
    let first : Enters m o named m1 o1 = subst (λ t. Enters m o (given t) m1 o1) c.target_of.ensures c.in_ok-enter_given.ensures in
    let second : Enters m1 o1 behind m2 o2 = subst (λ t. Enters m1 o1 (given t) m2 o2) c.falls_to.ensures c.in_ok-enter_given-2.ensures in
    let third : Enters m2 o2 targets m3 o3 = subst (λ xs. Enters m2 o2 xs m3 o3) c.targets_of.ensures c.in_ok-enter_each.ensures in
    subst (λ xs. Enters m o xs m3 o3) (sym (leads_found image at found (sym c.fetch.ensures ∙ c.in-Ok.is)))
    (enters_both m o named m1 o1 (behind ++ targets) m3 o3 first (enters_both m1 o1 behind m2 o2 targets m3 o3 second third))
