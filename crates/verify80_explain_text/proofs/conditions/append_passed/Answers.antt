use Rattle.std.specs.Prelude.{codes}
use Rattle.verify80_explain_text.specs.Conditions.{condition_line}
use Rattle.verify80_explain_text.proofs.LineLemmas.{one_line_more}
use Rattle.verify80_explain_text.proofs.conditions.append_passed.Goals as goal

pub loop-at-preserved : goal.loop-at-preserved
loop-at-preserved c =
    one_line_more (condition_line c.args.image.now c.args.publics.now (codes " IS PASSED OVER")) c.args.passed.now
    c.args.text.now.items c.loop-at.text.items _ c.loop-at.at-index c.loop-at-test.true c.in_ok-append_passed_over.ensures c.loop-at.invariant
