use Rattle.std.proofs.Common.{refl}
use Rattle.verify80_explain_text.specs.Reaching.{headed_lines}
use Rattle.verify80_explain_text.proofs.ReachLemmas.{headed_next, lines_end}
use Rattle.verify80_explain_text.proofs.reach.append_points.Goals as goal

pub loop-rest-preserved : goal.loop-rest-preserved
loop-rest-preserved c =
    headed_next c.args.image.now c.args.publics.now c.loop-rest.before _ c.loop-rest.rest.now _ c.loop-rest.text.items c.append_heading.new.text.items c.append_point.new.text.items _
    c.in-len1-up.len_at_least c.loop-rest.invariant c.in_ok-append_heading.ensures c.in_ok-append_point.ensures refl

pub returns : goal.returns
returns c = lines_end (headed_lines c.args.image.now c.args.publics.now) c.loop-rest.before c.loop-rest.rest.now c.loop-rest.text.items _ c.in_default.len_below c.loop-rest.invariant
