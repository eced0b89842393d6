use Rattle.std.specs.Prelude.{Ok, Err}
use Rattle.std.proofs.lemmas.Result.{err_from_is_err_and}
use Rattle.verify80_flow.proofs.ManyVisits.{visits_more, visits_visit, closed_more}
use Rattle.verify80_flow.proofs.table.Table.pass.Goals as goal

pub returns-in_err-here-clause-visits : goal.returns-in_err-here-clause-visits
returns-in_err-here-clause-visits g c =
    let p = err_from_is_err_and c.from_residual.result c.from_residual.ensures.1 in
    let code = g.C.Code.code c.args.program.now in
    let now = c.loop-point.self.known in
    let new = c.visit.new.self.known in
    let refused = Err c.in_err-here.field-0.0 in
    rw (p.1, p.2) (visits_more code c.args.self.now.known now new c.loop-point.changed refused c.loop-point.invariant.visits (visits_visit code now new c.loop-point.point refused c.in_err-here.ensures))

pub loop-point-preserved : goal.loop-point-preserved
loop-point-preserved g c =
    let code = g.C.Code.code c.args.program.now in
    let now = c.loop-point.self.known in
    let new = c.visit.new.self.known in
    let here = Ok c.in_ok-here.here in
    record {
      visits = visits_more code c.args.self.now.known now new c.loop-point.changed here c.loop-point.invariant.visits (visits_visit code now new c.loop-point.point here c.in_ok-here.ensures);
      closed = closed_more code now new c.loop-point.point c.loop-point.changed c.in_ok-here.here c.loop-point.invariant.closed c.in_ok-here.ensures;
    }
