use Rattle.std.proofs.Common.{length, subst, inl, Ok, Err}
use Rattle.std.specs.Prelude.{refl}
use Rattle.std.proofs.lemmas.Result.{err_from_is_err_and}
use Rattle.frames80.specs.StackFrame.{StackFrame}
use Rattle.frames80.specs.declared.moves.Moves.TheVariants.{Either}
use Rattle.frames80_interned.specs.Frames.{frame_at}
use Rattle.verify80_flow.specs.Known.{Flows}
use Rattle.verify80_flow.proofs.FrameLemmas.{stays_at}
use Rattle.verify80_flow.proofs.VisitLemmas.{can_still_lead, can_lead_more}
use Rattle.verify80_flow.proofs.StepLemmas.{steps_first_refused, steps_both}
use Rattle.verify80_flow.proofs.table.Table.branch.Goals as goal

pub flow-requires-2 : goal.flow-requires-2
flow-requires-2 c =
    let one = c.in_ok-one.ensures in
    let after = c.flow.new.self in
    can_lead_more after c.args.site.now.frame (length after.known.points) (can_still_lead c.args.self.now after c.args.site.now.frame one.flows.small one.flows.more one.stays c.requires)

pub returns-in_err-one-clause-steps : goal.returns-in_err-one-clause-steps
returns-in_err-one-clause-steps c targets =
    let p = err_from_is_err_and c.from_residual.result c.from_residual.ensures.1 in
    let table = c.args.self.now in
    let s = c.args.site.now in
    let f = frame_at table.frames s.frame in
    rw (p.1, p.2) (steps_first_refused c.frame_laws.ensures table.known c.flow.new.self.known s.procedure s.at targets s.next s.next s.role (Either f c.args.to) f c.in_err-one.field-0.0 (inl refl, refl) c.in_err-one.ensures.flows)

pub returns-in_err-other-clause-steps : goal.returns-in_err-other-clause-steps
returns-in_err-other-clause-steps c targets =
    let p = err_from_is_err_and c.from_residual-in_err-other.result c.from_residual-in_err-other.ensures.1 in
    let table = c.args.self.now in
    let mid = c.flow.new.self in
    let s = c.args.site.now in
    let f = frame_at table.frames s.frame in
    let second : Flows mid.known c.flow-2.new.self.known s.procedure c.args.to f (Err c.in_err-other.field-0.0) =
    subst (λ (g : StackFrame). Flows mid.known c.flow-2.new.self.known s.procedure c.args.to g (Err c.in_err-other.field-0.0)) (stays_at table.frames mid.frames c.in_ok-one.ensures.stays s.frame c.requires.there) c.in_err-other.ensures.flows in
    rw (p.1, p.2) (steps_both c.frame_laws.ensures table.known mid.known c.flow-2.new.self.known s.procedure s.at targets s.next c.args.to s.role f c.in_ok-one.one (Err c.in_err-other.field-0.0) c.in_ok-one.ensures.flows second)

pub returns-clause-steps : goal.returns-clause-steps
returns-clause-steps c targets =
    let table = c.args.self.now in
    let mid = c.flow.new.self in
    let s = c.args.site.now in
    let f = frame_at table.frames s.frame in
    let second : Flows mid.known c.flow-2.new.self.known s.procedure c.args.to f (Ok c.in_ok-other.other) =
    subst (λ (g : StackFrame). Flows mid.known c.flow-2.new.self.known s.procedure c.args.to g (Ok c.in_ok-other.other)) (stays_at table.frames mid.frames c.in_ok-one.ensures.stays s.frame c.requires.there) c.in_ok-other.ensures.flows in
    steps_both c.frame_laws.ensures table.known mid.known c.flow-2.new.self.known s.procedure s.at targets s.next c.args.to s.role f c.in_ok-one.one (Ok c.in_ok-other.other) c.in_ok-one.ensures.flows second
