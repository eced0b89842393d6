use Rattle.std.proofs.Common.{◌∙◌, arith, sym}
use Rattle.loader80_board.proofs.StatesLemmas.{begun, come_at, ended, went}
use Rattle.loader80_board.proofs.skipping.skip_steps.Goals as goal

pub loop-made-init : goal.loop-made-init
loop-made-init c = record {
  whole = c.requires.whole;
  come = λ start now. begun c.args.rules.now.lines.now c.args.rules.now.regions.now c.args.rules.now.outputs start c.args.running.now now;
}

pub returns-then-is_some-clause-comes : goal.returns-then-is_some-clause-comes
returns-then-is_some-clause-comes c = λ start now.
    let some = sym c.is_some.ensures ∙ c.if-is_some.true in (
      ended c.args.rules.now.lines.now c.args.rules.now.regions.now c.args.rules.now.outputs c.args.steps start c.loop-made.made c.loop-made.running c.step_on_board.new.running c.in_ok-end.end
          some c.loop-made-test.true (c.loop-made.invariant.come start now) c.in_ok-end.ensures.turned,
      some,
    )

pub loop-made-preserved : goal.loop-made-preserved
loop-made-preserved c = record {
  whole = c.in_ok-end.ensures.whole;
  come = λ start now. went c.args.rules.now.lines.now c.args.rules.now.regions.now c.args.rules.now.outputs start c.loop-made.made c.loop-made.running c.step_on_board.new.running c.in_ok-end.end
      (sym c.is_some.ensures ∙ c.if-is_some.false) (c.loop-made.invariant.come start now) c.in_ok-end.ensures.turned;
}

pub returns-clause-comes : goal.returns-clause-comes
returns-clause-comes c = λ start now.
    come_at c.args.rules.now.lines.now c.args.rules.now.regions.now c.args.rules.now.outputs start c.loop-made.made c.args.steps c.loop-made.running
    (omega (arith, c.loop-made-test.false, c.loop-made.auto.made-end)) (c.loop-made.invariant.come start now)
