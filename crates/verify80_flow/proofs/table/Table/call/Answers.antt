use Rattle.std.proofs.Common.{◌≡◌, ◌≤◌, ◌∙◌, ap, sym, subst, Ok, Err, Some, None}
use Rattle.std.proofs.lemmas.Result.{err_from_is_err_and}
use Rattle.frames80.specs.StackFrame.{StackFrame}
use Rattle.frames80.specs.Calls.{returned, room}
use Rattle.frames80_interned.specs.Frames.{frame_at}
use Rattle.verify80_flow.specs.Known.{Known, KnownFrames, Flows, CallsOut, IsShort, exit_of}
use Rattle.verify80_flow.proofs.FrameLemmas.{stays_there, stays_at}
use Rattle.verify80_flow.proofs.VisitLemmas.{returned_within}
use Rattle.verify80_flow.proofs.StepLemmas.{calls_refused, calls_waiting, calls_back, calls_not_back}
use Rattle.verify80_flow.proofs.table.Table.call.Goals as goal

pub come_back-requires : goal.come_back-requires
come_back-requires c = stays_there c.args.self.now.frames c.enter.new.self.frames c.in_ok-entered.ensures.stays c.args.site.now.frame c.requires.there

pub returns-in_err-entered-clause-calls : goal.returns-in_err-entered-clause-calls
returns-in_err-entered-clause-calls c =
    let p = err_from_is_err_and c.from_residual.result c.from_residual.ensures.1 in
    let table = c.args.self.now in
    let s = c.args.site.now in
    rw (p.1, p.2) (calls_refused c.frame_laws.ensures table.known c.enter.new.self.known c.enter.new.self.known s.procedure s.at s.next s.role (frame_at table.frames s.frame) c.args.target c.in_err-entered.field-0.0 c.in_err-entered.ensures.flows)

pub returns-in_ok-add-in-None-clause-calls : goal.returns-in_ok-add-in-None-clause-calls
returns-in_ok-add-in-None-clause-calls c =
    let table = c.args.self.now in
    let mid = c.enter.new.self in
    let s = c.args.site.now in
    let none : exit_of mid.known.exits c.args.target ≡ None = sym c.exit_of.ensures ∙ c.in-None.is in
    subst (λ (k : Known). CallsOut table.known k s.procedure s.at s.next s.role (frame_at table.frames s.frame) c.args.target (Ok c.in_ok-entered.entered)) (sym (ap (λ (t : KnownFrames). t.known) c.self.view_is))
    (calls_waiting c.frame_laws.ensures table.known mid.known s.procedure s.at s.next s.role (frame_at table.frames s.frame) c.args.target c.in_ok-entered.entered c.in_ok-entered.ensures.flows none)

pub returns-in_err-back-in-Some-clause-calls : goal.returns-in_err-back-in-Some-clause-calls
returns-in_err-back-in-Some-clause-calls c =
    let p = err_from_is_err_and c.from_residual-in_err-back-in-Some.result c.from_residual-in_err-back-in-Some.ensures.1 in
    let table = c.args.self.now in
    let mid = c.enter.new.self in
    let s = c.args.site.now in
    let f = frame_at table.frames s.frame in
    let taken = c.in-Some.taken in
    let exit : exit_of mid.known.exits c.args.target ≡ Some taken = sym c.exit_of.ensures ∙ c.in-Some.is in
    let short : IsShort s.at (room s.role f.words) taken c.in_err-back-in-Some.field-0.0 =
    subst (λ (g : StackFrame). IsShort s.at (room s.role g.words) taken c.in_err-back-in-Some.field-0.0) (stays_at table.frames mid.frames c.in_ok-entered.ensures.stays s.frame c.requires.there) c.in_err-back-in-Some.ensures.short in
    rw (p.1, p.2) (calls_not_back c.frame_laws.ensures table.known mid.known c.come_back.new.self.known s.procedure s.at s.next s.role f c.args.target taken c.in_ok-entered.entered c.in_err-back-in-Some.field-0.0 c.in_ok-entered.ensures.flows exit short)

pub flow-requires : goal.flow-requires
flow-requires c =
    let table = c.args.self.now in
    let mid = c.enter.new.self in
    let back = c.come_back.new.self in
    let s = c.args.site.now in
    let f = frame_at table.frames s.frame in
    let taken = c.in-Some.taken in
    let same = stays_at table.frames mid.frames c.in_ok-entered.ensures.stays s.frame c.requires.there in
    let is = c.in_ok-back-in-Some.ensures.back.is ∙ ap (λ (g : StackFrame). returned taken g) same in
    record {
      small = rw c.in_ok-back-in-Some.ensures.known c.in_ok-entered.ensures.flows.small;
      there = c.in_ok-back-in-Some.ensures.back.there;
      fits = rw (c.in_ok-back-in-Some.ensures.known, is) (returned_within _ _ taken f c.in_ok-entered.ensures.flows.more c.requires.fits);
    }

pub returns-in_err-went_on-in-Some-clause-calls : goal.returns-in_err-went_on-in-Some-clause-calls
returns-in_err-went_on-in-Some-clause-calls c =
    let p = err_from_is_err_and c.from_residual-in_err-went_on-in-Some.result c.from_residual-in_err-went_on-in-Some.ensures.1 in
    let table = c.args.self.now in
    let mid = c.enter.new.self in
    let s = c.args.site.now in
    let f = frame_at table.frames s.frame in
    let taken = c.in-Some.taken in
    let exit : exit_of mid.known.exits c.args.target ≡ Some taken = sym c.exit_of.ensures ∙ c.in-Some.is in
    let same = stays_at table.frames mid.frames c.in_ok-entered.ensures.stays s.frame c.requires.there in
    let is = c.in_ok-back-in-Some.ensures.back.is ∙ ap (λ (g : StackFrame). returned taken g) same in
    let enough : taken ≤ room s.role f.words = subst (λ (g : StackFrame). taken ≤ room s.role g.words) same c.in_ok-back-in-Some.ensures.enough in
    let second : Flows mid.known c.flow.new.self.known s.procedure s.next (returned taken f) (Err c.in_err-went_on-in-Some.field-0.0) =
    subst (λ (k : Known). Flows k c.flow.new.self.known s.procedure s.next (returned taken f) (Err c.in_err-went_on-in-Some.field-0.0)) c.in_ok-back-in-Some.ensures.known
    (subst (λ (g : StackFrame). Flows c.come_back.new.self.known c.flow.new.self.known s.procedure s.next g (Err c.in_err-went_on-in-Some.field-0.0)) is c.in_err-went_on-in-Some.ensures.flows) in
    rw (p.1, p.2) (calls_back c.frame_laws.ensures table.known mid.known c.flow.new.self.known s.procedure s.at s.next s.role f c.args.target taken c.in_ok-entered.entered (Err c.in_err-went_on-in-Some.field-0.0) c.in_ok-entered.ensures.flows exit enough second)

pub returns-in_ok-went_on-in-Some-clause-calls : goal.returns-in_ok-went_on-in-Some-clause-calls
returns-in_ok-went_on-in-Some-clause-calls c =
    let table = c.args.self.now in
    let mid = c.enter.new.self in
    let s = c.args.site.now in
    let f = frame_at table.frames s.frame in
    let taken = c.in-Some.taken in
    let exit : exit_of mid.known.exits c.args.target ≡ Some taken = sym c.exit_of.ensures ∙ c.in-Some.is in
    let same = stays_at table.frames mid.frames c.in_ok-entered.ensures.stays s.frame c.requires.there in
    let is = c.in_ok-back-in-Some.ensures.back.is ∙ ap (λ (g : StackFrame). returned taken g) same in
    let enough : taken ≤ room s.role f.words = subst (λ (g : StackFrame). taken ≤ room s.role g.words) same c.in_ok-back-in-Some.ensures.enough in
    let second : Flows mid.known c.flow.new.self.known s.procedure s.next (returned taken f) (Ok c.in_ok-went_on-in-Some.went_on) =
    subst (λ (k : Known). Flows k c.flow.new.self.known s.procedure s.next (returned taken f) (Ok c.in_ok-went_on-in-Some.went_on)) c.in_ok-back-in-Some.ensures.known
    (subst (λ (g : StackFrame). Flows c.come_back.new.self.known c.flow.new.self.known s.procedure s.next g (Ok c.in_ok-went_on-in-Some.went_on)) is c.in_ok-went_on-in-Some.ensures.flows) in
    calls_back c.frame_laws.ensures table.known mid.known c.flow.new.self.known s.procedure s.at s.next s.role f c.args.target taken c.in_ok-entered.entered (Ok c.in_ok-went_on-in-Some.went_on) c.in_ok-entered.ensures.flows exit enough second
