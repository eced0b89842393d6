use Rattle.std.proofs.Common.{◌≡◌, ◌+◌, ◌-◌, ◌<◌, ◌∙◌, ap, subst, arith, ℕ, List, map, length, drop, get_or, Bor}
use Rattle.std.proofs.lemmas.List.{length-map}
use Rattle.omf_model.specs.declared.modules.Module.{Module}
use Rattle.link80_text.specs.Needs.{AreNeeds, AreWith, needers}
use Rattle.link80_text.proofs.NeedLemmas.{at_mapped, begin_module, end_module}
use Rattle.link80_text.proofs.needs.Needs.of.Goals as goal

pub loop-done-preserved : goal.loop-done-preserved
loop-done-preserved c =
    let modules = c.args.modules.now in
    let done = c.loop-done.done in
    let k = length modules - 1 - done in
    let ms = map (λ (m : Bor Module). m.now) modules in
    let m = c.index-modules-number.result in
    let before : length modules - done ≡ k + 1 = omega (arith, c.loop-done-test.true) in
    let after : k ≡ length modules - (done + 1) = omega arith in
    let less : k < length ms = omega (arith, c.loop-done-test.true, length-map modules (λ (m : Bor Module). m.now)) in
    let is : m.now ≡ get_or ms k m.now = ap (λ (r : Bor Module). r.now) c.index-modules-number.is ∙ at_mapped (λ (r : Bor Module). r.now) modules k m in
    let begun = begin_module ms k c.loop-done.needs (subst (λ (n : ℕ). AreNeeds ms n c.loop-done.needs) before c.loop-done.invariant) in
    let added = c.in_ok-add_all.ensures (λ name. needers name (k + 1) (drop (k + 1) ms)) begun in
    subst (λ (n : ℕ). AreNeeds ms n c.add_all.new.self) after
    (end_module ms k m.now c.add_all.new.self less is
    (subst (λ (xs : List (List ℕ)). AreWith xs k (λ name. needers name (k + 1) (drop (k + 1) ms)) c.add_all.new.self) c.externals.ensures.value added))
