use Rattle.std.proofs.Common.{◌≡◌, ◌≢◌, ◌∙◌, ℕ, ap, sym, subst, List, Ok, Err, Some, true, false, true≢false}
use Rattle.std.specs.Prelude.{slice_get, slice_set, is_some}
use Rattle.std.specs.Cmp.{unsigned_Decides}
use Rattle.frames80.specs.StackFrame.{StackFrame}
use Rattle.frames80.specs.Calls.{agree, merged}
use Rattle.frames80_interned.specs.Frames.{frame_at, IsFrame}
use Rattle.verify80_flow.specs.Points.{Point, with_frame}
use Rattle.verify80_flow.specs.Known.{Known, KnownFrames, Flows}
use Rattle.verify80_flow.proofs.FrameLemmas.{is_at}
use Rattle.verify80_flow.proofs.KnownLemmas.{replaced, flows_same, flows_replaced, flows_differ}
use Rattle.verify80_flow.proofs.table.Table.merge.Goals as goal

-- two frames by number, and the frames that they are
module _ (frames table : List StackFrame) (kept other : ℕ) (f : StackFrame) (same : frames ≡ table) (is : IsFrame frames kept f) where
  pub agree_is : (b : _) → agree (frame_at frames kept) (frame_at frames other) ≡ b → agree f (frame_at table other) ≡ b
  agree_is b e = ap (λ (g : StackFrame). agree g (frame_at table other)) (sym is.is) ∙ ap (λ (fs : List StackFrame). agree (frame_at frames kept) (frame_at fs other)) (sym same) ∙ e

  pub merged_is : merged (frame_at frames kept) (frame_at frames other) ≡ merged f (frame_at table other)
  merged_is = ap (λ (fs : List StackFrame). merged (frame_at frames kept) (frame_at fs other)) same ∙ ap (λ (g : StackFrame). merged g (frame_at table other)) is.is

pub returns-in-Err-HeightsDiffer-clause-flows : goal.returns-in-Err-HeightsDiffer-clause-flows
returns-in-Err-HeightsDiffer-clause-flows c =
    let table = c.args.self.now in
    let at = c.requires.at in
    let frames = ap (λ (t : KnownFrames). t.frames) c.self.view_is in
    let there : slice_get c.self.inside.points.points c.args.i ≡ Some at.point = ap (λ (t : KnownFrames). slice_get t.known.points c.args.i) c.self.view_is ∙ at.stands in
    let kept = rw there at c.frame-kept.ensures in
    let differ = c.meet.ensures.differ (c.in-Err-HeightsDiffer.is ∙ ap Err c.in-Err-HeightsDiffer.field-0-is) in
    flows_differ table.known _ c.args.procedure c.args.to c.args.i (frame_at table.frames c.args.frame) at
    (agree_is c.self.inside.points.frames table.frames c.frame-kept.result c.args.frame at.point.frame frames kept false differ)

pub returns-then-eq-clause-flows : goal.returns-then-eq-clause-flows
returns-then-eq-clause-flows c =
    let table = c.args.self.now in
    let at = c.requires.at in
    let g = frame_at table.frames c.args.frame in
    let fs = c.self.inside.points.frames in
    let frames = ap (λ (t : KnownFrames). t.frames) c.self.view_is in
    let there : slice_get c.self.inside.points.points c.args.i ≡ Some at.point = ap (λ (t : KnownFrames). slice_get t.known.points c.args.i) c.self.view_is ∙ at.stands in
    let kept = rw there at c.frame-kept.ensures in
    let equal : c.in-Ok.merged ≡ c.frame-kept.result = (unsigned_Decides c.in-Ok.merged c.frame-kept.result).0 (sym c.if-eq.ensures) in
    let same = agree_is fs table.frames c.frame-kept.result c.args.frame at.point.frame frames kept true c.in-Ok.ensures.agree in
    let stays = is_at fs c.meet.new.self.frames c.frame-kept.result at.point.frame c.in-Ok.ensures.stays kept in
    let unchanged : merged at.point.frame g ≡ at.point.frame =
    sym (merged_is fs table.frames c.frame-kept.result c.args.frame at.point.frame frames kept) ∙ sym c.in-Ok.ensures.merged.is ∙ ap (frame_at c.meet.new.self.frames) equal ∙ stays.is in
    let known : record { points = c.meet.new.self.points; exits = c.self.inside.exits.items; forgets = is_some c.self.inside.asked } ≡ table.known =
    (λ i. record { points = c.in-Ok.ensures.points i; exits = c.self.inside.exits.items; forgets = is_some c.self.inside.asked }) ∙ ap (λ (t : KnownFrames). t.known) c.self.view_is in
    subst (λ (k : Known). Flows table.known k c.args.procedure c.args.to g (Ok false)) (sym known)
    (flows_same c.frame_laws.ensures table.known c.args.procedure c.args.to c.args.i g at c.requires.small same unchanged)

pub returns-clause-flows : goal.returns-clause-flows
returns-clause-flows c =
    let table = c.args.self.now in
    let at = c.requires.at in
    let g = frame_at table.frames c.args.frame in
    let fs = c.self.inside.points.frames in
    let frames = ap (λ (t : KnownFrames). t.frames) c.self.view_is in
    let there : slice_get c.self.inside.points.points c.args.i ≡ Some at.point = ap (λ (t : KnownFrames). slice_get t.known.points c.args.i) c.self.view_is ∙ at.stands in
    let kept = rw there at c.frame-kept.ensures in
    let same = agree_is fs table.frames c.frame-kept.result c.args.frame at.point.frame frames kept true c.in-Ok.ensures.agree in
    let met = merged_is fs table.frames c.frame-kept.result c.args.frame at.point.frame frames kept in
    let changed : merged at.point.frame g ≢ at.point.frame = λ e. let equal : c.in-Ok.merged ≡ c.frame-kept.result = c.in-Ok.ensures.unchanged (met ∙ e ∙ sym kept.is) in true≢false (sym ((unsigned_Decides c.in-Ok.merged c.frame-kept.result).1 equal) ∙ sym c.if-eq.ensures) in
    let points : c.meet.new.self.points ≡ table.known.points = c.in-Ok.ensures.points ∙ ap (λ (t : KnownFrames). t.known.points) c.self.view_is in
    let reframed : c.replace.new.self.points ≡ slice_set table.known.points c.args.i (with_frame (merged at.point.frame g) at.point) =
    c.replace.ensures.reframed.reframed at.point (ap (λ (ps : List Point). slice_get ps c.args.i) points ∙ at.stands)
    ∙ ap (λ (ps : List Point). slice_set ps c.args.i (with_frame (frame_at c.meet.new.self.frames c.in-Ok.merged) at.point)) points
    ∙ ap (λ (f : StackFrame). slice_set table.known.points c.args.i (with_frame f at.point)) (c.in-Ok.ensures.merged.is ∙ met) in
    let after : c.visit_again.new.self.known ≡ replaced table.known c.args.i (merged at.point.frame g) at.point =
    ap (λ (t : KnownFrames). t.known) c.visit_again.ensures ∙ (λ i. record { points = reframed i; exits = (c.self.view_is i).known.exits; forgets = (c.self.view_is i).known.forgets }) in
    subst (λ (k : Known). Flows table.known k c.args.procedure c.args.to g (Ok true)) (sym after)
    (flows_replaced c.frame_laws.ensures table.known c.args.procedure c.args.to c.args.i g at c.requires.small same changed)
