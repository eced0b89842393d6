use Rattle.std.proofs.Common.{◌≡◌, ◌<◌, ℕ, List, ◌++◌, ◌∷◌, [], length, sym, ◌∙◌, ap, subst, arith}
use Rattle.std.proofs.lemmas.List.{length-map}
use Rattle.frames80.specs.StackFrame.{StackFrame}
use Rattle.frames80_interned.specs.Frames.{frame_at}
use Rattle.verify80_flow.specs.declared.points.StoredPoint.{StoredPoint}
use Rattle.verify80_flow.specs.Points.{Point, IsNoPoint, StoredPoints}
use Rattle.frames80.specs.PointNumbers.{Puts}
use Rattle.verify80_flow.specs.PointStore.{AreStored, point_of, points_of}
use Rattle.verify80_flow.proofs.PointLemmas.{points_of-added, AreStored-same, AreStored-added}
use Rattle.verify80_flow.proofs.points.Points.add.Goals as goal

pub invariant_of-self-2 : goal.invariant_of-self-2
invariant_of-self-2 c =
    let fields = c.self.inside in
    let point : StoredPoint = record { procedure = c.args.procedure; at = c.args.at; frame = c.args.frame } in
    let frames = ap (λ (s : StoredPoints). s.frames) c.self.view_is in
    let framed = subst (λ (fs : List StackFrame). c.args.frame < length fs) (sym frames) c.requires.there in
    let count : c.len.result ≡ length fields.stored.items = omega (arith, fields.stored.ok.0) in
    let puts = subst (λ (n : ℕ). Puts fields.numbers c.put.new.self c.args.procedure c.args.at n) count c.in_ok-put.ensures.put in
    let new = subst (λ (points : List Point). IsNoPoint points c.args.procedure c.args.at) (sym (ap (λ (s : StoredPoints). s.points) c.self.view_is)) c.requires.new in
    let stored : c.push.new.self.items ≡ fields.stored.items ++ point ∷ [] = c.in_ok-push.ensures.items ∙ ap (λ (l : List StoredPoint). l ++ point ∷ []) c.reserve.ensures.items in
    subst (λ (l : List StoredPoint). AreStored fields.frames l c.put.new.self) (sym stored)
    (AreStored-added fields.frames fields.stored.items fields.numbers c.self.invariant c.put.new.self point framed puts new)

pub returns-clause-added : goal.returns-clause-added
returns-clause-added c =
    let fields = c.self.inside in
    let point : StoredPoint = record { procedure = c.args.procedure; at = c.args.at; frame = c.args.frame } in
    let stored : c.push.new.self.items ≡ fields.stored.items ++ point ∷ [] = c.in_ok-push.ensures.items ∙ ap (λ (l : List StoredPoint). l ++ point ∷ []) c.reserve.ensures.items in
    ap (points_of fields.frames) stored
    ∙ points_of-added fields.frames fields.stored.items point
    ∙ (λ i. let s = c.self.view_is i in s.points ++ record { procedure = c.args.procedure; at = c.args.at; frame = frame_at s.frames c.args.frame } ∷ [])

pub invariant_of-self-in_err-push : goal.invariant_of-self-in_err-push
invariant_of-self-in_err-push c = absurd (omega (arith, c.in_err-push.ensures.full, c.in_ok-reserve.ensures.ok, c.reserve.ensures.len))

pub overflow_cast-len : goal.overflow_cast-len
overflow_cast-len c =
    let fields = c.self.inside in
    omega (arith, fields.stored.ok.0, ap (λ (s : StoredPoints). length s.points) c.self.view_is, length-map fields.stored.items (point_of fields.frames))

pub put-requires : goal.put-requires
put-requires c =
    let fields = c.self.inside in
    omega (arith, fields.stored.ok.0, ap (λ (s : StoredPoints). length s.points) c.self.view_is, length-map fields.stored.items (point_of fields.frames))

pub invariant_of-self : goal.invariant_of-self
invariant_of-self c =
    let fields = c.self.inside in
    subst (λ (l : List StoredPoint). AreStored fields.frames l fields.numbers) (sym c.reserve.ensures.items) c.self.invariant

pub invariant_of-self-in_err-put : goal.invariant_of-self-in_err-put
invariant_of-self-in_err-put c =
    let fields = c.self.inside in
    subst (λ (l : List StoredPoint). AreStored fields.frames l c.put.new.self) (sym c.reserve.ensures.items)
    (AreStored-same fields.frames fields.stored.items fields.numbers c.self.invariant c.put.new.self c.in_err-put.ensures.err)
