use Rattle.std.specs.Prelude.{◌≤◌}
use Rattle.std.specs.Option.{option_map}
use Rattle.std.proofs.Common.{refl, arith, below_more, subst}
use Rattle.verify80_spans.specs.Span.{byte_alone}
use Rattle.verify80_states.specs.Known.{cut}
use Rattle.verify80_follow.specs.Follows.{Has}
use Rattle.verify80_follow.proofs.fit.Fit.has_each.Goals as goal

pub loop-number-preserved : goal.loop-number-preserved
loop-number-preserved c byte from less =
    below_more (λ k. c.args.known.a.first ≤ k → Has c.args.self.now.table.now c.args.to (cut c.args.known (byte_alone k)) c.args.beside (option_map (λ bytes. bytes.now) c.args.stack)) c.loop-number.number (λ k less from. c.loop-number.invariant k from less)
    (λ from. subst (λ s. Has c.args.self.now.table.now c.args.to s c.args.beside (option_map (λ bytes. bytes.now) c.args.stack)) (cc (c.cut.ensures, c.alone.ensures)) (c.if-not-has.ensures refl)) byte less from

pub returns : goal.returns
returns c is byte within = c.loop-number.invariant byte within.above (let enough = c.loop-number-test.false in let below = within.below in omega (arith, enough, below))
