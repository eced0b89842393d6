use Rattle.std.proofs.Common.{◌-◌, arith, refl}
use Rattle.loader80_trace.proofs.CoverLemmas.{all_rest, next_lines, rest_none}
use Rattle.loader80_trace.proofs.covering.covering.append_lines.Goals as goal

pub loop-at-init : goal.loop-at-init
loop-at-init c = record {
  lines = all_rest c.args.shown c.args.counts.now c.args.layout.now.regions.now c.args.layout.now.memory.now c.args.layout.now.reached.now c.args.lines.now.items;
  before = refl;
  few = omega arith;
}

pub loop-at-preserved : goal.loop-at-preserved
loop-at-preserved c = record {
  lines = next_lines c.args.shown c.args.counts.now c.args.layout.now.regions.now c.args.layout.now.memory.now c.args.layout.now.reached.now c.loop-at.at c.loop-at.lines.items _ _ c.count_shown-count.result c.loop-at-test.true c.count_shown-count.ensures c.loop-at.invariant.lines c.in_ok-append_line.ensures;
  before = c.data_behind-before.ensures.before;
  few = c.data_behind-before.ensures.few;
}

pub returns : goal.returns
returns c = rest_none c.args.shown c.args.counts.now c.args.layout.now.regions.now c.args.layout.now.memory.now c.args.layout.now.reached.now c.loop-at.at (65536 - c.loop-at.at) c.loop-at.lines.items _ (omega (arith, c.loop-at-test.false)) c.loop-at.invariant.lines
