use Rattle.std.proofs.Common.{◌∙◌, arith, sym}
use Rattle.machine80_board.proofs.RunLemmas.{all_made, begun, ended, went}
use Rattle.machine80_board.proofs.running.advance.Goals as goal

pub loop-made-init : goal.loop-made-init
loop-made-init c = record {
  whole = c.requires.whole;
  come = λ s now. begun c.args.rules.now.lines.now c.args.rules.now.regions.now c.args.rules.now.outputs s c.args.running.now now;
}

pub returns-then-is_some : goal.returns-then-is_some
returns-then-is_some c = λ s now.
    ended c.args.rules.now.lines.now c.args.rules.now.regions.now c.args.rules.now.outputs s c.args.steps c.loop-made.made c.loop-made.running c.step_on_board.new.running c.in_ok-end.end
    (sym c.is_some.ensures ∙ c.if-is_some.true) c.loop-made-test.true (c.loop-made.invariant.come s now) c.in_ok-end.ensures.turned

pub loop-made-preserved : goal.loop-made-preserved
loop-made-preserved c = record {
  whole = c.in_ok-end.ensures.whole;
  come = λ s now. went c.args.rules.now.lines.now c.args.rules.now.regions.now c.args.rules.now.outputs s c.loop-made.made c.loop-made.running c.step_on_board.new.running c.in_ok-end.end
      (sym c.is_some.ensures ∙ c.if-is_some.false) (c.loop-made.invariant.come s now) c.in_ok-end.ensures.turned;
}

pub returns : goal.returns
returns c = λ s now. all_made c.args.rules.now.lines.now c.args.rules.now.regions.now c.args.rules.now.outputs s c.args.steps c.loop-made.made _
    (omega (arith, c.loop-made-test.false, c.loop-made.auto.made-end)) (c.loop-made.invariant.come s now)
