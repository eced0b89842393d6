use Rattle.std.proofs.Common.{◌-◌, arith, refl}
use Rattle.loader80_trace.proofs.CoverLemmas.{all_marked, next_marked, none_marked}
use Rattle.loader80_trace.proofs.covering.covering.append_marked.Goals as goal

pub loop-at-init : goal.loop-at-init
loop-at-init c = record {
  lines = all_marked c.args.marks.now c.args.layout.now.regions.now c.args.layout.now.memory.now c.args.layout.now.reached.now c.args.lines.now.items;
  before = refl;
  few = omega arith;
}

pub loop-at-preserved : goal.loop-at-preserved
loop-at-preserved c = record {
  lines = next_marked c.args.marks.now c.args.layout.now.regions.now c.args.layout.now.memory.now c.args.layout.now.reached.now c.loop-at.at c.loop-at.lines.items _ _ _ c.loop-at-test.true c.loop-at.invariant.lines c.in_ok-append_mark.ensures c.in_ok-append_line.ensures;
  before = c.data_behind-before.ensures.before;
  few = c.data_behind-before.ensures.few;
}

pub returns : goal.returns
returns c = none_marked c.args.marks.now c.args.layout.now.regions.now c.args.layout.now.memory.now c.args.layout.now.reached.now c.loop-at.at (65536 - c.loop-at.at) c.loop-at.lines.items _ (omega (arith, c.loop-at-test.false)) c.loop-at.invariant.lines
