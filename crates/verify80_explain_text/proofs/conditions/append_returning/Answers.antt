use Rattle.std.specs.Prelude.{codes}
use Rattle.verify80_explain_text.specs.Conditions.{condition_line}
use Rattle.verify80_explain_text.proofs.LineLemmas.{one_line_more}
use Rattle.verify80_explain_text.proofs.conditions.append_returning.Goals as goal

pub loop-entry-preserved : goal.loop-entry-preserved
loop-entry-preserved c =
    one_line_more (condition_line c.args.image.now c.args.publics.now (codes " RETURNS")) c.args.returning.now
    c.args.text.now.items c.loop-entry.text.items _ c.loop-entry.entry-index c.loop-entry-test.true c.in_ok-append_returns.ensures c.loop-entry.invariant
