use Rattle.std.proofs.Common.{refl}
use Rattle.verify80_explain_text.specs.ReachGraph.{box_of}
use Rattle.verify80_explain_text.proofs.ReachLemmas.{lines_end, lines_next}
use Rattle.verify80_explain_text.proofs.digraph.append_boxes.Goals as goal

pub loop-rest-preserved : goal.loop-rest-preserved
loop-rest-preserved c =
    lines_next (box_of c.args.image.now c.args.publics.now) c.loop-rest.before _ c.loop-rest.rest.now _ c.loop-rest.text.items c.append_box_unless.new.text.items _
    c.in-len1-up.len_at_least c.loop-rest.invariant c.in_ok-append_box_unless.ensures refl

pub returns : goal.returns
returns c = lines_end (box_of c.args.image.now c.args.publics.now) c.loop-rest.before c.loop-rest.rest.now c.loop-rest.text.items _ c.in_default.len_below c.loop-rest.invariant
