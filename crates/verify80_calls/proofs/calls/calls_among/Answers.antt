use Rattle.std.proofs.Common.{◌∙◌, ap, sym, subst}
use Rattle.std.specs.List.{filter_map}
use Rattle.image80.specs.Image.{Located}
use Rattle.verify80.specs.Looking.{code_of}
use Rattle.verify80_calls.specs.Calls.{AreCalls}
use Rattle.verify80_calls.specs.Points.{call_at}
use Rattle.verify80_calls.proofs.CallLemmas.{are_calls}
use Rattle.verify80_calls.proofs.calls.calls_among.Goals as goal

pub returns : goal.returns
returns c =
    let image = c.args.vouched.now.image in
    let accepted = c.points.ensures.vouched.accepted in
    let none = c.fitting_tables_cover_walks.ensures.no_fault (code_of image) accepted.fitted.table accepted.fitted.fits in
    let own = c.points_of.result.now in
    subst (AreCalls (code_of image) c.args.procedure)
    (sym (c.in_ok-calls.ensures ∙ ap (λ (i : Located). filter_map (call_at (code_of i)) own) c.requires))
    (are_calls (code_of image) none c.args.procedure own (c.points_of.ensures (code_of image) c.points.ensures.points))
