use Rattle.std.proofs.Common.{subst}
use Rattle.std.specs.Prelude.{IfSome}
use Rattle.frames80.specs.declared.effect.Change.{Change}
use Rattle.frames80.specs.Moves.{changed}
use Rattle.frames80_interned.specs.Frames.{frame_at, IsFrame}
use Rattle.verify80_flow.specs.Walked.{IsMovingFrom, IsWalked}
use Rattle.verify80_flow.proofs.WalkedLemmas.{all_stay, leads_there}
use Rattle.verify80_flow.proofs.walks.Walks.go_on.Goals as goal

pub returns-clause-walked : goal.returns-clause-walked
returns-clause-walked g c = all_stay (g.C.Code.code c.args.program.now) c.args.self.now c.change-2.new.self c.change-2.ensures.stays c.requires

pub returns-clause-next : goal.returns-clause-next
returns-clause-next g c =
    let code = g.C.Code.code c.args.program.now in
    let old = c.args.self.now.frames in
    let from = c.in-Some.from in
    let effect = c.in-Some.effect in
    let walked = subst (λ o. IfSome o (λ m. IsWalked code old m.0)) c.in-Some.is c.in_ok-from.ensures.point in
    let moving = subst (λ o. IfSome o (λ m. IsMovingFrom code old m.0 m.1 m.2)) c.in-Some.is c.in_ok-from.ensures.moves in
    leads_there code old c.change-2.new.self from walked effect c.in-Some.next moving c.targets.result.now c.args.to c.in_ok-frame.frame c.targets.ensures (c.leads_to.ensures c.if-not-leads_to.false)
    (subst (λ (change : Change). IsFrame c.change-2.new.self c.in_ok-frame.frame (changed change (frame_at old from.frame))) c.change.ensures c.in_ok-frame.ensures.changed)
