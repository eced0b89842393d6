use Rattle.std.proofs.Common.{◌<◌, length, refl, ap, subst, arith}
use Rattle.std.specs.Prelude.{IfSome, slice_get}
use Rattle.std.proofs.lemmas.List.{length-map}
use Rattle.std.proofs.lemmas.Option.{slice_get_read}
use Rattle.frames80_interned.specs.Frames.{IsFrame}
use Rattle.verify80_flow.specs.Points.{Point, StoredPoints}
use Rattle.verify80_flow.specs.PointStore.{point_of}
use Rattle.verify80_flow.proofs.PointLemmas.{framed_at}
use Rattle.verify80_flow.proofs.points.Points.frame.Goals as goal

pub returns : goal.returns
returns c =
    let fields = c.self.inside in
    let point = c.index.result.now in
    let within : c.args.i < length fields.stored.items = omega (arith, ap (λ (s : StoredPoints). length s.points) c.self.view_is, length-map fields.stored.items (point_of fields.frames)) in
    let there = slice_get_read fields.stored.items (length fields.stored.items) c.args.i point refl within c.index.ensures in
    subst (λ (s : StoredPoints). IfSome (slice_get s.points c.args.i) (λ (p : Point). IsFrame s.frames point.frame p.frame)) c.self.view_is
    (framed_at fields.frames fields.stored.items fields.numbers c.self.invariant c.args.i point there)
