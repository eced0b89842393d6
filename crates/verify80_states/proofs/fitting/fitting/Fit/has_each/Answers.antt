use Rattle.verify80_states.proofs.Names.{refl, arith, below_more, subst, ◌≤◌, byte_alone, cut_state, Has}
use Rattle.verify80_states.proofs.fitting.fitting.Fit.has_each.Goals as goal

pub loop-number-preserved : goal.loop-number-preserved
loop-number-preserved c byte from less =
    below_more (λ k. c.args.state.known.a.first ≤ k → Has c.args.self.now.variables.now c.args.self.now.table.now c.args.to (cut_state c.args.state (byte_alone k))) c.loop-number.number (λ k less from. c.loop-number.invariant k from less)
    (λ from. subst (λ s. Has c.args.self.now.variables.now c.args.self.now.table.now c.args.to s) (cc (c.cut.ensures, c.alone.ensures)) (c.if-not-has.ensures refl)) byte less from

pub returns : goal.returns
returns c is byte within = c.loop-number.invariant byte within.above (let enough = c.loop-number-test.false in let below = within.below in omega (arith, enough, below))
