use Rattle.std.proofs.Common.{◌∷◌, ◌++◌, ◌<◌, [], Some, length, sym, ◌∙◌, ap, subst, arith}
use Rattle.frames80.specs.Lists.{read_at}
use Rattle.verify80_walks.specs.declared.point.Point.{Point}
use Rattle.verify80_walks.specs.Backwards.{IsBackwards}
use Rattle.verify80_walks.proofs.WayLemmas.{back-begin, back-step, way-to}
use Rattle.verify80_walks.proofs.ways.way_to.Goals as goal

pub loop-before-init : goal.loop-before-init
loop-before-init c =
    let points = c.args.points.now in
    let one = c.in_ok-copy.field-0 in
    let at = read_at points c.args.number c.index-points-at.result c.requires.there c.index-points-at.is in
    let copied = c.in_ok-copy.ensures in
    record {
      there = c.requires.there;
      way = λ code last h is. subst (λ way. IsBackwards code points c.args.number way last) (sym (c.in_ok-push.ensures.items ∙ ap (λ way. way ++ one ∷ []) c.new-way.ensures.items))
          (back-begin code points c.args.number last one is (at ∙ ap (λ (p : Point). Some p) (sym copied)));
    }

pub loop-before-preserved : goal.loop-before-preserved
loop-before-preserved c =
    let inv = c.loop-before.invariant in
    let found = c.in-Some.ensures in
    let points = c.args.points.now in
    let one = c.in_ok-copy-2.field-0 in
    let there : c.in-Some.before < length points = omega (arith, found.earlier, inv.there) in
    let at = read_at points c.in-Some.before c.index-points-at-in-Some.result there c.index-points-at-in-Some.is in
    let copied = c.in_ok-copy-2.ensures in
    record {
      there = there;
      way = λ code last h is. subst (λ way. IsBackwards code points c.in-Some.before way last) (sym c.in_ok-push-2.ensures.items)
          (back-step code points c.loop-before.at c.in-Some.before c.loop-before.way.items last one (inv.way code last h is) (found.before code h) (at ∙ ap (λ (p : Point). Some p) (sym copied)));
    }

pub returns : goal.returns
returns c = λ code last h is. way-to code c.args.points.now c.loop-before.at c.loop-before.way.items c.reverse.new.self.items last
    (c.loop-before.invariant.way code last h is) (c.in_default.ensures.before code h) c.reverse.ensures.items
