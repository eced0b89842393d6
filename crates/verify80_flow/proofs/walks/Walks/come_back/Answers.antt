use Rattle.std.proofs.Common.{◌≤◌, subst}
use Rattle.std.specs.Prelude.{IfSome}
use Rattle.frames80.specs.declared.role.Role.{Role}
use Rattle.frames80.specs.Calls.{room, returned}
use Rattle.frames80_interned.specs.Frames.{frame_at, IsFrame}
use Rattle.verify80_flow.specs.Walked.{IsMovingFrom, IsWalked}
use Rattle.verify80_flow.proofs.WalkedLemmas.{all_stay, comes_there}
use Rattle.verify80_flow.proofs.walks.Walks.come_back.Goals as goal

pub returns-in-Ok-clause-walked : goal.returns-in-Ok-clause-walked
returns-in-Ok-clause-walked g c = all_stay (g.C.Code.code c.args.program.now) c.args.self.now c.after.new.self c.after.ensures.stays c.requires

pub returns-in-Ok-clause-next : goal.returns-in-Ok-clause-next
returns-in-Ok-clause-next g c =
    let code = g.C.Code.code c.args.program.now in
    let old = c.args.self.now.frames in
    let new = c.after.new.self in
    let call = c.in-Some.call in
    let exit = c.in-Some-2.exit in
    let f = frame_at old call.frame in
    let h = frame_at old exit.frame in
    let at_call = subst (λ o. IfSome o (λ m. IsWalked code old m.0)) c.in-Some.is c.in_ok-call.ensures.point in
    let moving = subst (λ o. IfSome o (λ m. IsMovingFrom code old m.0 m.1 m.2)) c.in-Some.is c.in_ok-call.ensures.moves in
    let at_exit = subst (λ o. IfSome o (λ m. IsWalked code old m.0)) c.in-Some-2.is c.in_ok-exit.ensures.point in
    let gone = subst (λ o. IfSome o (λ m. IsMovingFrom code old m.0 m.1 m.2)) c.in-Some-2.is c.in_ok-exit.ensures.moves in
    let enough = subst (λ n. n ≤ room c.role_of-role.result f.words) c.taken-taken.ensures c.in-Ok.ensures.enough in
    let is = subst (λ n. IsFrame new c.in-Ok.frame (returned n f)) c.taken-taken.ensures c.in-Ok.ensures.back in
    comes_there code old new call at_call c.in-Some.effect c.in-Some.next moving exit at_exit c.in-Some-2.leaving _ gone c.in-Ok.frame
    (c.is_of_callee.ensures c.if-not-is_of_callee.false f) (c.is_return.ensures c.if-not-is_return.false h)
    (subst (λ (role : Role). h.taken ≤ room role f.words) c.role_of-role.ensures enough) is

pub returns-in-Err-ShortArguments-clause-walked : goal.returns-in-Err-ShortArguments-clause-walked
returns-in-Err-ShortArguments-clause-walked g c = all_stay (g.C.Code.code c.args.program.now) c.args.self.now c.after.new.self c.after.ensures.stays c.requires
