use Rattle.std.proofs.Common.{◌≡◌, ◌≤◌, ◌<◌, ◌∙◌, ap, sym, subst, inr, refl, arith, w64, ℕ, List, None, Some}
use Rattle.std.specs.Prelude.{slice_index, Option}
use Rattle.std.proofs.lemmas.Int.{to_z-of_z}
use Rattle.frames80.specs.StackFrame.{StackFrame}
use Rattle.frames80.specs.Calls.{room, depth_of}
use Rattle.frames80_interned.specs.Admitted.{move_of}
use Rattle.frames80_interned.specs.Frames.{frame_at}
use Rattle.verify80_bounds.specs.declared.graph.CallSite.{CallSite}
use Rattle.verify80_flow.specs.declared.refusal.Refusal.TheVariants.{ShortArguments}
use Rattle.verify80_flow.specs.Known.{IsShort, is_exact}
use Rattle.std.proofs.lemmas.Result.{err_from_is_err_and}
use Rattle.verify80_flow.specs.Survey.{IsCallOf}
use Rattle.verify80_flow.proofs.SurveyLemmas.{depth_noted, call_noted, words_enough, short_here}
use Rattle.verify80_flow.proofs.survey.look_at.Goals as goal

pub returns-in_err-site-clause-refused : goal.returns-in_err-site-clause-refused
returns-in_err-site-clause-refused g c =
    let p = err_from_is_err_and c.from_residual.result c.from_residual.ensures.1 in
    rw (p.1, p.2) (c.in_err-site.ensures.refused (is_exact c.args.table.now.known.forgets))

pub returns-then-room-wanted-clause-refused : goal.returns-then-room-wanted-clause-refused
returns-then-room-wanted-clause-refused g c =
    let table = c.args.table.now in
    let site = c.in_ok-site.site in
    let is = c.in_ok-site.ensures.moves in
    let f = frame_at table.frames site.frame in
    let has : c.room.result ≡ room site.role f.words = c.room.ensures ∙ ap (λ (fs : List StackFrame). room site.role (frame_at fs site.frame).words) c.frames-2.ensures in
    let less : room site.role f.words < slice_index c.args.wants.now c.slot.result = omega (arith, has, c.if-room-wanted.true) in
    λ stands. short_here c.frame_laws.ensures (is_exact table.known.forgets) (g.C.Code.code c.args.program.now) table.known c.args.wants.now c.args.point site (move_of c.in_ok-site.effect f) c.in-Some.target
    f (ShortArguments site.at) is.move is.framed.is (sym (c.target_of.ensures f) ∙ c.in-Some.is) c.requires.wants
    (subst (λ n. IsShort site.at (room site.role f.words) (slice_index c.args.wants.now n) (ShortArguments site.at)) c.slot.ensures.is (inr (refl, less))) stands

pub returns-in_default-clause-seen : goal.returns-in_default-clause-seen
returns-in_default-clause-seen g c =
    let code = g.C.Code.code c.args.program.now in
    let table = c.args.table.now in
    let site = c.in_ok-site.site in
    let is = c.in_ok-site.ensures.moves in
    let f = frame_at table.frames site.frame in
    let moves = move_of c.in_ok-site.effect f in
    let depth = c.depth-depth.result in
    let deep = c.depth-depth.ensures ∙ ap (λ (fs : List StackFrame). depth_of site.role (frame_at fs site.frame)) c.frames.ensures in
    rw (to_z-of_z w64 depth (record { sfits = c.depth-depth.type_inv }))
    (record {
      site = site;
      moves = moves;
      move = is.move;
      depth_is = depth_noted code table.known c.args.point site moves f depth is.move is.framed.is deep;
      call_is = subst (λ (o : Option ℕ). IsCallOf code c.args.wants.now is.move.point o None) (sym (sym (c.target_of.ensures f) ∙ c.in_default.is)) tt;
    })

pub returns-clause-seen : goal.returns-clause-seen
returns-clause-seen g c =
    let code = g.C.Code.code c.args.program.now in
    let table = c.args.table.now in
    let wants = c.args.wants.now in
    let i = c.args.point in
    let site = c.in_ok-site.site in
    let is = c.in_ok-site.ensures.moves in
    let f = frame_at table.frames site.frame in
    let moves = move_of c.in_ok-site.effect f in
    let depth = c.depth-depth.result in
    let deep = c.depth-depth.ensures ∙ ap (λ (fs : List StackFrame). depth_of site.role (frame_at fs site.frame)) c.frames.ensures in
    let target = c.in-Some.target in
    let call : CallSite = record { caller = site.procedure; at = site.at; depth = depth; target = target } in
    let has : c.room.result ≡ room site.role f.words = c.room.ensures ∙ ap (λ (fs : List StackFrame). room site.role (frame_at fs site.frame).words) c.frames-2.ensures in
    let enough : slice_index wants c.slot.result ≤ room site.role f.words = omega (arith, has, c.if-room-wanted.false) in
    rw (to_z-of_z w64 depth (record { sfits = c.depth-depth.type_inv }))
    (record {
      site = site;
      moves = moves;
      move = is.move;
      depth_is = depth_noted code table.known i site moves f depth is.move is.framed.is deep;
      call_is = subst (λ (o : Option ℕ). IsCallOf code wants is.move.point o (Some call)) (sym (sym (c.target_of.ensures f) ∙ c.in-Some.is)) (
        call_noted code table.known i site moves f depth target is.move is.framed.is deep,
        words_enough code table.known wants i site moves f target c.slot.result is.move is.framed.is c.slot.ensures.is enough,
      );
    })
