use Rattle.verify80_states.proofs.Names.{◌≡◌, Bool, List, true, subst, is_marked, is_quiet}
use Rattle.verify80_states.proofs.CodeLemmas.{marked_by}
use Rattle.verify80_states.proofs.quiet.mark_quiet.Goals as goal

pub returns : goal.returns
returns c at marked = marked_by (is_quiet c.args.regions.now c.args.ranges.now) at (subst (λ (m : List Bool). is_marked m at ≡ true) c.in_ok-marks.ensures marked)
