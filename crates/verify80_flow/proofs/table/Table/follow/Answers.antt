use Rattle.std.proofs.Common.{◌≡◌, ◌∙◌, ℕ, List, ap, sym, subst}
use Rattle.frames80.specs.StackFrame.{StackFrame}
use Rattle.frames80.specs.Moves.{changed}
use Rattle.frames80.specs.declared.effect.Effect.{Effect}
use Rattle.frames80.specs.declared.moves.Moves.TheVariants.{On, Jump, Return, MaybeReturn}
use Rattle.frames80_interned.specs.Admitted.{move_of}
use Rattle.frames80_interned.specs.Frames.{frame_at}
use Rattle.verify80_flow.specs.Known.{KnownFrames, Steps}
use Rattle.verify80_flow.proofs.StepLemmas.{steps_one, on_way, jump_way, steps_call, steps_return}
use Rattle.verify80_flow.proofs.table.Table.follow.Goals as goal

pub returns-in-Change : goal.returns-in-Change
returns-in-Change c =
    let table = c.args.self.now in
    let s = c.args.site.now in
    let f = frame_at table.frames s.frame in
    let after = changed c.in-Change.change f in
    subst (λ (e : Effect). Steps table.known c.go_on.new.self.known s.procedure s.at c.args.targets.now s.next s.role (move_of e f) c.go_on.result) (sym c.in-Change.is)
    (steps_one c.frame_laws.ensures table.known c.go_on.new.self.known s.procedure s.at c.args.targets.now s.next s.next s.role (On after) after c.go_on.result (on_way after c.args.targets.now s.next) c.go_on.ensures.flows)

pub returns-in-Jump : goal.returns-in-Jump
returns-in-Jump c =
    let table = c.args.self.now in
    let s = c.args.site.now in
    let f = frame_at table.frames s.frame in
    subst (λ (e : Effect). Steps table.known c.flow.new.self.known s.procedure s.at c.args.targets.now s.next s.role (move_of e f) c.flow.result) (sym c.in-Jump.is)
    (steps_one c.frame_laws.ensures table.known c.flow.new.self.known s.procedure s.at c.args.targets.now s.next c.in-Jump.to s.role (Jump f c.in-Jump.to) f c.flow.result
    (jump_way f c.args.targets.now s.next c.in-Jump.to) c.flow.ensures.flows)

pub returns-in-JumpIf : goal.returns-in-JumpIf
returns-in-JumpIf c =
    let table = c.args.self.now in
    let s = c.args.site.now in
    subst (λ (e : Effect). Steps table.known c.branch-self.new.self.known s.procedure s.at c.args.targets.now s.next s.role (move_of e (frame_at table.frames s.frame)) c.branch-self.result) (sym c.in-JumpIf.is)
    (c.branch-self.ensures.steps c.args.targets.now)

pub returns-in-Call : goal.returns-in-Call
returns-in-Call c =
    let table = c.args.self.now in
    let s = c.args.site.now in
    let f = frame_at table.frames s.frame in
    subst (λ (e : Effect). Steps table.known c.call.new.self.known s.procedure s.at c.args.targets.now s.next s.role (move_of e f) c.call.result) (sym c.in-Call.is)
    (steps_call c.frame_laws.ensures table.known c.call.new.self.known s.procedure s.at c.args.targets.now s.next s.role f c.in-Call.target c.call.result c.call.ensures.calls)

pub returns-in-CallIf : goal.returns-in-CallIf
returns-in-CallIf c =
    let table = c.args.self.now in
    let s = c.args.site.now in
    subst (λ (e : Effect). Steps table.known c.call_if.new.self.known s.procedure s.at c.args.targets.now s.next s.role (move_of e (frame_at table.frames s.frame)) c.call_if.result) (sym c.in-CallIf.is)
    (c.call_if.ensures.steps c.args.targets.now)

pub returns-in-Return : goal.returns-in-Return
returns-in-Return c =
    let table = c.args.self.now in
    let s = c.args.site.now in
    let f = frame_at table.frames s.frame in
    let taken = c.taken-taken.result in
    let is : taken ≡ f.taken = c.taken-taken.ensures ∙ ap (λ (fs : List StackFrame). (frame_at fs s.frame).taken) (c.frames.ensures ∙ ap (λ (t : KnownFrames). t.frames) c.self.view_is) in
    subst (λ (e : Effect). Steps table.known c.exit.new.self.known s.procedure s.at c.args.targets.now s.next s.role (move_of e f) c.exit.result) (sym c.in-Return.is)
    (subst (λ (n : ℕ). Steps table.known c.exit.new.self.known s.procedure s.at c.args.targets.now s.next s.role (Return n) c.exit.result) is
    (steps_return c.frame_laws.ensures table.known c.exit.new.self.known s.procedure s.at c.args.targets.now s.next s.role taken c.exit.result c.exit.ensures.exits))

pub returns-in-ReturnIf : goal.returns-in-ReturnIf
returns-in-ReturnIf c =
    let table = c.args.self.now in
    let s = c.args.site.now in
    let f = frame_at table.frames s.frame in
    let taken = c.taken-taken-in-ReturnIf.result in
    let is : taken ≡ f.taken = c.taken-taken-in-ReturnIf.ensures ∙ ap (λ (fs : List StackFrame). (frame_at fs s.frame).taken) (c.frames-in-ReturnIf.ensures ∙ ap (λ (t : KnownFrames). t.frames) c.self-in-ReturnIf.view_is) in
    subst (λ (e : Effect). Steps table.known c.return_if.new.self.known s.procedure s.at c.args.targets.now s.next s.role (move_of e f) c.return_if.result) (sym c.in-ReturnIf.is)
    (subst (λ (n : ℕ). Steps table.known c.return_if.new.self.known s.procedure s.at c.args.targets.now s.next s.role (MaybeReturn f n) c.return_if.result) is
    (c.return_if.ensures.steps c.args.targets.now))
