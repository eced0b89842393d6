use Rattle.std.proofs.lemmas.Result.{err_from_is_err_and}
use Rattle.std.proofs.Common.{Ok, Err, subst}
use Rattle.verify80_flow.specs.Known.{KnownFrames, Visits}
use Rattle.verify80_flow.proofs.ManyVisits.{visits_none, visits_more, visits_visit}
use Rattle.verify80_flow.proofs.table.Table.drain.Goals as goal

pub loop-init : goal.loop-init
loop-init g c = visits_none (g.C.Code.code c.args.program.now) c.args.self.now.known c.requires

pub returns-in_err-here : goal.returns-in_err-here
returns-in_err-here g c =
    let p = err_from_is_err_and c.from_residual.result c.from_residual.ensures.1 in
    let code = g.C.Code.code c.args.program.now in
    let now = c.loop.self.known in
    let new = c.visit.new.self.known in
    rw (p.1, p.2) (visits_more code c.args.self.now.known now new c.loop.changed (Err c.in_err-here.field-0.0) c.loop.invariant (visits_visit code now new c.in-Some.point (Err c.in_err-here.field-0.0)
    (subst (λ (t : KnownFrames). Visits code t.known new c.in-Some.point (Err c.in_err-here.field-0.0)) c.next_pending.ensures.same c.in_err-here.ensures)))

pub loop-preserved : goal.loop-preserved
loop-preserved g c =
    let code = g.C.Code.code c.args.program.now in
    visits_more code c.args.self.now.known c.loop.self.known c.visit.new.self.known c.loop.changed (Ok c.in_ok-here.here) c.loop.invariant (visits_visit code c.loop.self.known c.visit.new.self.known c.in-Some.point (Ok c.in_ok-here.here)
    (subst (λ (t : KnownFrames). Visits code t.known c.visit.new.self.known c.in-Some.point (Ok c.in_ok-here.here)) c.next_pending.ensures.same c.in_ok-here.ensures))
