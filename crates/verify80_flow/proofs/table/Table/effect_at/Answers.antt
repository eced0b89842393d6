use Rattle.std.proofs.Common.{◌≡◌, ◌≢◌, ◌<◌, ◌∙◌, ap, sym, subst, length, refl, Ok, Err, Some, List}
use Rattle.std.specs.Prelude.{slice_get}
use Rattle.frames80.specs.declared.fault.FrameFault.TheVariants.{Memory}
use Rattle.frames80.specs.declared.effect.Effect.{Effect}
use Rattle.frames80.specs.declared.role.Role.{Role}
use Rattle.frames80.specs.StackFrame.{StackFrame}
use Rattle.frames80.specs.Effects.{effect_of}
use Rattle.frames80.specs.Moves.{moves_of}
use Rattle.frames80_interned.specs.Admitted.{move_of}
use Rattle.frames80_interned.specs.Frames.{frame_at, IsFrame}
use Rattle.verify80_flow.specs.Known.{KnownFrames}
use Rattle.verify80_flow.proofs.VisitLemmas.{some_at, AtPoint, look_refused, move_refused, effect_at_point}
use Rattle.verify80_flow.proofs.table.Table.effect_at.Goals as goal

pub returns-in-Err-clause-refused : goal.returns-in-Err-clause-refused
returns-in-Err-clause-refused g c =
    let code = g.C.Code.code c.args.program.now in
    let known = c.args.self.now.known in
    let i = c.args.point in
    let pt = some_at known.points i c.requires in
    let there : slice_get c.self.inside.points.points i ≡ Some pt.0 = ap (λ (t : KnownFrames). slice_get t.known.points i) c.self.view_is ∙ pt.1 in
    let placed = rw there at c.place-procedure.ensures in
    rw c.of_look.ensures (λ exact. look_refused exact code known i c.place-procedure.result.1 pt.0 c.in-Err.fault pt.1 placed.1 (sym c.look.ensures ∙ c.in-Err.is))

pub fault_of-requires : goal.fault_of-requires
fault_of-requires g c =
    let known = c.args.self.now.known in
    let i = c.args.point in
    let pt = some_at known.points i c.requires in
    let there : slice_get c.self.inside.points.points i ≡ Some pt.0 = ap (λ (t : KnownFrames). slice_get t.known.points i) c.self.view_is ∙ pt.1 in
    let framed = rw there at c.frame-frame.ensures in
    subst (λ (fs : List StackFrame). c.frame-frame.result < length fs) (sym c.frames.ensures) framed.there

pub returns-in-Some-clause-refused : goal.returns-in-Some-clause-refused
returns-in-Some-clause-refused g c =
    let code = g.C.Code.code c.args.program.now in
    let known = c.args.self.now.known in
    let i = c.args.point in
    let pt = some_at known.points i c.requires in
    let there : slice_get c.self.inside.points.points i ≡ Some pt.0 = ap (λ (t : KnownFrames). slice_get t.known.points i) c.self.view_is ∙ pt.1 in
    let placed = rw there at c.place-procedure.ensures in
    let framed = rw there at c.frame-frame.ensures in
    let at = c.place-procedure.result.1 in
    let here : AtPoint code known i c.place-procedure.result.0 at pt.0.frame = record { point = pt.0; there = pt.1; procedure = placed.0; address = placed.1; frame = refl } in
    let is : frame_at c.frames.result.now c.frame-frame.result ≡ pt.0.frame = ap (λ (fs : List StackFrame). frame_at fs c.frame-frame.result) c.frames.ensures ∙ framed.is in
    let looked : code.look at ≡ Ok c.in-Ok.found = sym c.look.ensures ∙ c.in-Ok.is in
    let moved =
    subst (λ (e : Effect). moves_of c.role_of-role.result e pt.0.frame ≡ Err c.in-Some.fault) c.effect_of-effect.ensures
    (subst (λ (f : StackFrame). moves_of c.role_of-role.result c.effect_of-effect.result f ≡ Err c.in-Some.fault) is c.in-Some.ensures.refused) in
    rw c.of.ensures (λ exact. move_refused c.frame_laws.ensures exact code known i c.place-procedure.result.0 at pt.0.frame c.in-Ok.found c.in-Some.fault here looked
    (λ (apart : c.in-Some.fault ≢ Memory). subst (λ (r : Role). moves_of r (effect_of c.in-Ok.found.instr) pt.0.frame ≡ Err c.in-Some.fault) c.role_of-role.ensures moved))

pub returns-clause-moves : goal.returns-clause-moves
returns-clause-moves g c =
    let code = g.C.Code.code c.args.program.now in
    let table = c.args.self.now in
    let i = c.args.point in
    let id = c.frame-frame.result in
    let pt = some_at table.known.points i c.requires in
    let there : slice_get c.self.inside.points.points i ≡ Some pt.0 = ap (λ (t : KnownFrames). slice_get t.known.points i) c.self.view_is ∙ pt.1 in
    let placed = rw there at c.place-procedure.ensures in
    let frames = ap (λ (t : KnownFrames). t.frames) c.self.view_is in
    let framed : IsFrame table.frames id pt.0.frame = subst (λ (fs : List StackFrame). IsFrame fs id pt.0.frame) frames (rw there at c.frame-frame.ensures) in
    let f = frame_at table.frames id in
    let at = c.place-procedure.result.1 in
    let role = c.role_of-role.result in
    let effect = c.effect_of-effect.result in
    let here : AtPoint code table.known i c.place-procedure.result.0 at f = record { point = pt.0; there = pt.1; procedure = placed.0; address = placed.1; frame = sym framed.is } in
    let looked : code.look at ≡ Ok c.in-Ok.found = sym c.look.ensures ∙ c.in-Ok.is in
    let admitted =
    subst (λ (fs : List StackFrame). moves_of role effect (frame_at fs id) ≡ Ok (move_of effect (frame_at fs id))) (c.frames.ensures ∙ frames) c.in_default.ensures.admitted in
    effect_at_point code table i c.place-procedure.result.0 at c.in-Ok.found role effect id here looked c.role_of-role.ensures
    (subst (λ (e : Effect). moves_of role e f ≡ Ok (move_of effect f)) c.effect_of-effect.ensures admitted) framed.there
