use Rattle.std.proofs.Common.{subst, Ok, Err}
use Rattle.std.specs.Prelude.{refl}
use Rattle.std.proofs.lemmas.Result.{err_from_is_err_and}
use Rattle.frames80.specs.StackFrame.{StackFrame}
use Rattle.frames80.specs.declared.moves.Moves.TheVariants.{MaybeCall}
use Rattle.frames80_interned.specs.Frames.{frame_at}
use Rattle.verify80_flow.specs.Known.{CallsOut}
use Rattle.verify80_flow.proofs.FrameLemmas.{stays_at}
use Rattle.verify80_flow.proofs.VisitLemmas.{can_still_lead}
use Rattle.verify80_flow.proofs.StepLemmas.{steps_first_refused, steps_maybe_call}
use Rattle.verify80_flow.proofs.table.Table.call_if.Goals as goal

pub call-requires : goal.call-requires
call-requires c =
    let one = c.in_ok-one.ensures in
    can_still_lead c.args.self.now c.flow.new.self c.args.site.now.frame one.flows.small one.flows.more one.stays c.requires

pub returns-in_err-one-clause-steps : goal.returns-in_err-one-clause-steps
returns-in_err-one-clause-steps c targets =
    let p = err_from_is_err_and c.from_residual.result c.from_residual.ensures.1 in
    let table = c.args.self.now in
    let s = c.args.site.now in
    let f = frame_at table.frames s.frame in
    rw (p.1, p.2) (steps_first_refused c.frame_laws.ensures table.known c.flow.new.self.known s.procedure s.at targets s.next s.next s.role (MaybeCall f c.args.target) f c.in_err-one.field-0.0 (refl, refl) c.in_err-one.ensures.flows)

pub returns-in_err-other-clause-steps : goal.returns-in_err-other-clause-steps
returns-in_err-other-clause-steps c targets =
    let p = err_from_is_err_and c.from_residual-in_err-other.result c.from_residual-in_err-other.ensures.1 in
    let table = c.args.self.now in
    let mid = c.flow.new.self in
    let s = c.args.site.now in
    let f = frame_at table.frames s.frame in
    let calls : CallsOut mid.known c.call.new.self.known s.procedure s.at s.next s.role f c.args.target (Err c.in_err-other.field-0.0) =
    subst (λ (g : StackFrame). CallsOut mid.known c.call.new.self.known s.procedure s.at s.next s.role g c.args.target (Err c.in_err-other.field-0.0)) (stays_at table.frames mid.frames c.in_ok-one.ensures.stays s.frame c.requires.there) c.in_err-other.ensures.calls in
    rw (p.1, p.2) (steps_maybe_call c.frame_laws.ensures table.known mid.known c.call.new.self.known s.procedure s.at targets s.next s.role f c.args.target c.in_ok-one.one (Err c.in_err-other.field-0.0) c.in_ok-one.ensures.flows calls)

pub returns-clause-steps : goal.returns-clause-steps
returns-clause-steps c targets =
    let table = c.args.self.now in
    let mid = c.flow.new.self in
    let s = c.args.site.now in
    let f = frame_at table.frames s.frame in
    let calls : CallsOut mid.known c.call.new.self.known s.procedure s.at s.next s.role f c.args.target (Ok c.in_ok-other.other) =
    subst (λ (g : StackFrame). CallsOut mid.known c.call.new.self.known s.procedure s.at s.next s.role g c.args.target (Ok c.in_ok-other.other)) (stays_at table.frames mid.frames c.in_ok-one.ensures.stays s.frame c.requires.there) c.in_ok-other.ensures.calls in
    steps_maybe_call c.frame_laws.ensures table.known mid.known c.call.new.self.known s.procedure s.at targets s.next s.role f c.args.target c.in_ok-one.one (Ok c.in_ok-other.other) c.in_ok-one.ensures.flows calls
