use Rattle.verify80_explain_text.specs.Conditions.{begins_line}
use Rattle.verify80_explain_text.proofs.LineLemmas.{one_more}
use Rattle.verify80_explain_text.proofs.conditions.append_all_begins.Goals as goal

pub loop-begin-preserved : goal.loop-begin-preserved
loop-begin-preserved c =
    one_more (begins_line c.args.image.now c.args.publics.now) c.args.begins.now
    c.args.text.now.items c.loop-begin.text.items _ c.loop-begin.begin-index _ c.loop-begin-test.true c.in_ok-append_begins.ensures c.loop-begin.invariant
