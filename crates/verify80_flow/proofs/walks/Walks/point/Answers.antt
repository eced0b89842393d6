use Rattle.std.proofs.Common.{length, refl, arith, ◌<◌}
use Rattle.std.proofs.lemmas.Option.{slice_get_read}
use Rattle.verify80_flow.proofs.walks.Walks.point.Goals as goal

pub returns : goal.returns
returns c = λ code w.
    let items = c.args.self.now.points.items in
    let within : c.args.step < length items = omega arith in
    w.each c.args.step c.index.result.now (slice_get_read items (length items) c.args.step c.index.result.now refl within c.index.ensures)
