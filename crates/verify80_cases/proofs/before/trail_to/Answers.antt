use Rattle.verify80_cases.proofs.TrailLemmas.{no_trail, trail_before, trail_on}
use Rattle.verify80_cases.proofs.before.trail_to.Goals as goal

pub loop-preserved : goal.loop-preserved
loop-preserved c = record {
  trail = trail_on c.args.code.now c.args.reached.now c.loop.place c.in-Some.passed.next c.loop.trail c.after-trail.result c.loop.invariant.trail c.in-Some.ensures c.after-trail.ensures;
}

pub returns : goal.returns
returns c =
    trail_before c.args.code.now c.args.reached.now c.args.at c.unknown.result (no_trail c.args.code.now c.args.reached.now c.args.at c.unknown.result c.unknown.ensures)
