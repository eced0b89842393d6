use Rattle.std.proofs.Common.{◌∙◌, sym}
use Rattle.loader80_board.proofs.TraceLemmas.{some_ended_before, stopped_early}
use Rattle.loader80_board.proofs.tracing.write_span.Goals as goal

pub returns-then-is_some-clause-lines : goal.returns-then-is_some-clause-lines
returns-then-is_some-clause-lines g c = λ start now.
    some_ended_before c.args.rules.now.lines.now c.args.rules.now.regions.now start (record { steps = c.args.lines.steps; outputs = c.args.rules.now.outputs }) c.args.lines.span c.args.lines.form.publics.now c.args.lines.form.numbered c.skip_steps.new.running c.min-before.result c.in_ok-ended.ended _
    c.min-before.ensures (sym c.is_some.ensures ∙ c.if-is_some.true) (c.in_ok-ended.ensures.comes start now)

pub returns-then-lines-clause-lines : goal.returns-then-lines-clause-lines
returns-then-lines-clause-lines g c = λ start now.
    stopped_early c.args.rules.now.lines.now c.args.rules.now.regions.now start (record { steps = c.args.lines.steps; outputs = c.args.rules.now.outputs }) c.args.lines.span c.args.lines.form.publics.now c.args.lines.form.numbered c.skip_steps.new.running c.min-before.result c.in_ok-ended.ended _
    c.min-before.ensures c.if-lines.true (sym c.is_some.ensures ∙ c.if-is_some.false) (c.in_ok-ended.ensures.comes start now)
