use Rattle.std.proofs.Common.{arith, subst, get_or, Ok, Err}
use Rattle.std.proofs.lemmas.Result.{err_from_is_err_and}
use Rattle.frames80.specs.StackFrame.{StackFrame}
use Rattle.frames80_interned.specs.Frames.{frame_at}
use Rattle.verify80_flow.specs.Known.{Flows}
use Rattle.verify80_flow.proofs.FrameLemmas.{stays_same, stays_then, stays_at}
use Rattle.verify80_flow.proofs.StepLemmas.{to_none, to_one_more, steps_to_each, steps_to_one_refused}
use Rattle.verify80_flow.proofs.table.Table.go_to_each.Goals as goal

pub loop-to-init : goal.loop-to-init
loop-to-init c = record {
  goes = to_none c.args.self.now.known c.args.site.now.procedure (frame_at c.args.self.now.frames c.args.site.now.frame) c.args.targets.now c.requires.small;
  stays = stays_same c.args.self.now.frames;
}

pub loop-to-preserved : goal.loop-to-preserved
loop-to-preserved c =
    let table = c.args.self.now in
    let s = c.args.site.now in
    let targets = c.args.targets.now in
    let f = frame_at table.frames s.frame in
    let l = c.loop-to in
    let flows : Flows l.self.known c.flow.new.self.known s.procedure (get_or targets l.to-index 0) f (Ok c.in_ok-here.here) =
    subst (λ (g : StackFrame). Flows l.self.known c.flow.new.self.known s.procedure (get_or targets l.to-index 0) g (Ok c.in_ok-here.here)) (stays_at table.frames l.self.frames l.invariant.stays s.frame c.requires.there) c.in_ok-here.ensures.flows in
    record {
      goes = to_one_more table.known l.self.known c.flow.new.self.known s.procedure f targets l.to-index l.changed c.in_ok-here.here (omega arith) l.invariant.goes flows;
      stays = stays_then table.frames l.self.frames c.flow.new.self.frames l.invariant.stays c.in_ok-here.ensures.stays;
    }

pub returns-in_err-here-clause-steps : goal.returns-in_err-here-clause-steps
returns-in_err-here-clause-steps c =
    let p = err_from_is_err_and c.from_residual.result c.from_residual.ensures.1 in
    let table = c.args.self.now in
    let s = c.args.site.now in
    let targets = c.args.targets.now in
    let f = frame_at table.frames s.frame in
    let l = c.loop-to in
    let refused : Flows l.self.known c.flow.new.self.known s.procedure (get_or targets l.to-index 0) f (Err c.in_err-here.field-0.0) =
    subst (λ (g : StackFrame). Flows l.self.known c.flow.new.self.known s.procedure (get_or targets l.to-index 0) g (Err c.in_err-here.field-0.0)) (stays_at table.frames l.self.frames l.invariant.stays s.frame c.requires.there) c.in_err-here.ensures.flows in
    rw (p.1, p.2)
    (steps_to_one_refused c.frame_laws.ensures table.known l.self.known c.flow.new.self.known s.procedure s.at targets s.next s.role f l.to-index l.changed c.in_err-here.field-0.0 (omega arith) l.invariant.goes refused)

pub returns-clause-steps : goal.returns-clause-steps
returns-clause-steps c =
    let s = c.args.site.now in
    let l = c.loop-to in
    steps_to_each c.frame_laws.ensures c.args.self.now.known l.self.known s.procedure s.at c.args.targets.now s.next s.role (frame_at c.args.self.now.frames s.frame) l.to-index l.changed (omega arith) l.invariant.goes
