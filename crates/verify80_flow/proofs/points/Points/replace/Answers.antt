use Rattle.std.proofs.Common.{◌<◌, List, length, slice_set, refl, sym, ap, subst, arith}
use Rattle.std.proofs.lemmas.List.{length-map}
use Rattle.std.proofs.lemmas.Option.{slice_get_read}
use Rattle.frames80.specs.StackFrame.{StackFrame}
use Rattle.frames80_interned.specs.Frames.{frame_at}
use Rattle.verify80_flow.specs.declared.points.StoredPoint.{StoredPoint}
use Rattle.verify80_flow.specs.Points.{Reframes, StoredPoints}
use Rattle.verify80_flow.specs.PointStore.{point_of, points_of}
use Rattle.verify80_flow.proofs.PointLemmas.{points_of-reframed, AreStored-reframed}
use Rattle.verify80_flow.proofs.points.Points.replace.Goals as goal

pub invariant_of-self : goal.invariant_of-self
invariant_of-self c =
    let fields = c.self.inside in
    let point = c.index_mut.result.now in
    let next : StoredPoint = record { procedure = point.procedure; at = point.at; frame = c.args.frame } in
    let within : c.args.i < length fields.stored.items = omega (arith, ap (λ (s : StoredPoints). length s.points) c.self.view_is, length-map fields.stored.items (point_of fields.frames)) in
    let there = slice_get_read fields.stored.items (length fields.stored.items) c.args.i point refl within c.index_mut.ensures.value in
    let frames = ap (λ (s : StoredPoints). s.frames) c.self.view_is in
    let framed = subst (λ (fs : List StackFrame). c.args.frame < length fs) (sym frames) c.requires.there in
    AreStored-reframed fields.frames fields.stored.items fields.numbers c.self.invariant c.args.i point next there refl refl framed

pub returns-clause-reframed : goal.returns-clause-reframed
returns-clause-reframed c =
    let fields = c.self.inside in
    let point = c.index_mut.result.now in
    let next : StoredPoint = record { procedure = point.procedure; at = point.at; frame = c.args.frame } in
    let within : c.args.i < length fields.stored.items = omega (arith, ap (λ (s : StoredPoints). length s.points) c.self.view_is, length-map fields.stored.items (point_of fields.frames)) in
    let there = slice_get_read fields.stored.items (length fields.stored.items) c.args.i point refl within c.index_mut.ensures.value in
    subst (λ (s : StoredPoints). Reframes s.points (points_of fields.frames (slice_set fields.stored.items c.args.i next)) c.args.i (frame_at s.frames c.args.frame)) c.self.view_is
    (points_of-reframed fields.frames fields.stored.items next c.args.i point there refl refl)
