use Rattle.std.proofs.Common.{◌||◌, subst, Ok, Err, ℕ}
use Rattle.std.proofs.lemmas.Result.{err_from_is_err_and}
use Rattle.frames80.specs.StackFrame.{main_frame}
use Rattle.frames80.specs.declared.procedure.Procedure.TheVariants.{Main}
use Rattle.verify80_flow.specs.Known.{Flows, ManyVisits}
use Rattle.verify80_flow.proofs.ShownLemmas.{shown_start}
use Rattle.verify80_flow.proofs.ManyVisits.{visits_more, visits_flow, sweeps_done, sweeps_refused, all_closed}
use Rattle.verify80_flow.proofs.table.Table.sweep.Goals as goal

pub returns-in_err-drain-clause-sweeps : goal.returns-in_err-drain-clause-sweeps
returns-in_err-drain-clause-sweeps g c =
    let p = err_from_is_err_and c.from_residual.result c.from_residual.ensures.1 in
    let code = g.C.Code.code c.args.program.now in
    rw (p.1, p.2) (sweeps_refused code c.args.self.now.known c.drain.new.self.known c.in_err-drain.field-0.0 c.in_err-drain.ensures)

pub returns-in_err-begun-clause-sweeps : goal.returns-in_err-begun-clause-sweeps
returns-in_err-begun-clause-sweeps g c =
    let p = err_from_is_err_and c.from_residual-in_err-begun.result c.from_residual-in_err-begun.ensures.1 in
    let code = g.C.Code.code c.args.program.now in
    let known = c.args.self.now.known in
    let mid = c.drain.new.self.known in
    let new = c.begin.new.self.known in
    let flows = subst (λ (n : ℕ). Flows mid new Main n main_frame (Err c.in_err-begun.field-0.0)) c.start.ensures c.in_err-begun.ensures in
    let refused = visits_flow code mid new Main code.start main_frame (Err c.in_err-begun.field-0.0) (λ exact. shown_start exact code) flows in
    rw (p.1, p.2) (sweeps_refused code known new c.in_err-begun.field-0.0 (visits_more code known mid new c.in_ok-drain.field-0 (Err c.in_err-begun.field-0.0) c.in_ok-drain.ensures refused))

pub returns-in_err-passed-clause-sweeps : goal.returns-in_err-passed-clause-sweeps
returns-in_err-passed-clause-sweeps g c =
    let p = err_from_is_err_and c.from_residual-in_err-passed.result c.from_residual-in_err-passed.ensures.1 in
    let code = g.C.Code.code c.args.program.now in
    let known = c.args.self.now.known in
    let mid = c.drain.new.self.known in
    let begun = c.begin.new.self.known in
    let new = c.pass.new.self.known in
    let flows = subst (λ (n : ℕ). Flows mid begun Main n main_frame (Ok c.in_ok-begun.begun)) c.start.ensures c.in_ok-begun.ensures in
    let second : ManyVisits code mid begun (Ok c.in_ok-begun.begun) = visits_flow code mid begun Main code.start main_frame (Ok c.in_ok-begun.begun) (λ exact. shown_start exact code) flows in
    let both : ManyVisits code known begun (Ok (c.in_ok-drain.field-0 || c.in_ok-begun.begun)) = visits_more code known mid begun c.in_ok-drain.field-0 (Ok c.in_ok-begun.begun) c.in_ok-drain.ensures second in
    rw (p.1, p.2) (sweeps_refused code known new c.in_err-passed.field-0.0 (visits_more code known begun new (c.in_ok-drain.field-0 || c.in_ok-begun.begun) (Err c.in_err-passed.field-0.0) both c.in_err-passed.ensures.visits))

pub returns-clause-sweeps : goal.returns-clause-sweeps
returns-clause-sweeps g c =
    let code = g.C.Code.code c.args.program.now in
    let known = c.args.self.now.known in
    let mid = c.drain.new.self.known in
    let begun = c.begin.new.self.known in
    let new = c.pass.new.self.known in
    let flows = subst (λ (n : ℕ). Flows mid begun Main n main_frame (Ok c.in_ok-begun.begun)) c.start.ensures c.in_ok-begun.ensures in
    let second : ManyVisits code mid begun (Ok c.in_ok-begun.begun) = visits_flow code mid begun Main code.start main_frame (Ok c.in_ok-begun.begun) (λ exact. shown_start exact code) flows in
    sweeps_done code known mid new c.in_ok-drain.field-0 (c.in_ok-begun.begun || c.in_ok-passed.passed) c.in_ok-drain.ensures
    (visits_more code mid begun new c.in_ok-begun.begun (Ok c.in_ok-passed.passed) second c.in_ok-passed.ensures.visits)

pub returns-clause-closed : goal.returns-clause-closed
returns-clause-closed g c =
    let code = g.C.Code.code c.args.program.now in
    let mid = c.drain.new.self.known in
    let begun = c.begin.new.self.known in
    let flows = subst (λ (n : ℕ). Flows mid begun Main n main_frame (Ok c.in_ok-begun.begun)) c.start.ensures c.in_ok-begun.ensures in
    all_closed code mid begun c.pass.new.self.known c.in_ok-begun.begun c.in_ok-passed.passed flows c.in_ok-passed.ensures.visits c.in_ok-passed.ensures.closed
