use Rattle.plm80_names.specs.Printed.{named_refusal_line}
use Rattle.plm80_programs.proofs.FurtherLemmas.{one_more}
use Rattle.plm80_programs.proofs.reached.append_refusals.Goals as goal

pub loop-refusal-preserved : goal.loop-refusal-preserved
loop-refusal-preserved c =
    one_more (named_refusal_line c.args.image.now.regions.code c.args.names.now) c.args.refusals.now
    c.args.text.now.items c.loop-refusal.text.items _ c.loop-refusal.refusal-index _ c.loop-refusal-test.true c.in_ok-append_named.ensures c.loop-refusal.invariant
