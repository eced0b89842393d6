use Rattle.std.proofs.Common.{◌+◌, ◌<◌, arith, refl, subst, sym}
use Rattle.image80.specs.declared.range.Range.{Range}
use Rattle.verify80_cases.specs.Marks.{marked}
use Rattle.verify80_suggest.specs.Ranges.{CoversBelow}
use Rattle.verify80_suggest.proofs.RangeLemmas.{cover_more}
use Rattle.verify80_suggest.proofs.ranges.ranges_of.Goals as goal

pub loop-at-preserved-then-run-gt0 : goal.loop-at-preserved-then-run-gt0
loop-at-preserved-then-run-gt0 c =
    let marks = c.args.marks.now in
    let at = c.loop-at.at in
    let run = c.run_from-run.result in
    let found = c.run_from-run.ensures in
    let ranges = c.loop-at.ranges.items in
    let range : Range = record { first = at; length = run } in
    let some : 0 < run = omega (arith, c.if-run-gt0.true) in
    let before : at < 65536 = omega (arith, c.loop-at-test.true) in
    record {
      inside = found.inside;
      cover = subst (λ rs. CoversBelow (marked marks) (at + run) rs) (sym c.in_ok-push.ensures.items)
          (cover_more (marked marks) at ranges c.loop-at.invariant.cover range refl some
          (record { first = before; length = omega (arith, found.few); «end» = found.inside }) found.all found.ends);
    }
