use Rattle.std.proofs.Common.{◌∙◌, sym, subst}
use Rattle.std.specs.Prelude.{IfSome}
use Rattle.frames80_interned.specs.Frames.{frame_at}
use Rattle.verify80_flow.specs.Walked.{IsMovingFrom, IsWalked}
use Rattle.verify80_flow.proofs.WalkedLemmas.{all_stay, enters_there}
use Rattle.verify80_flow.proofs.walks.Walks.enter.Goals as goal

pub returns-clause-walked : goal.returns-clause-walked
returns-clause-walked g c = all_stay (g.C.Code.code c.args.program.now) c.args.self.now c.entry.new.self c.entry.ensures.stays c.requires

pub returns-clause-next : goal.returns-clause-next
returns-clause-next g c =
    let code = g.C.Code.code c.args.program.now in
    let old = c.args.self.now.frames in
    let call = c.in-Some.call in
    let walked = subst (λ o. IfSome o (λ m. IsWalked code old m.0)) c.in-Some.is c.in_ok-call.ensures.point in
    let moving = subst (λ o. IfSome o (λ m. IsMovingFrom code old m.0 m.1 m.2)) c.in-Some.is c.in_ok-call.ensures.moves in
    enters_there code old c.entry.new.self call walked c.in-Some.effect _ moving c.in-Some-target_of.target c.in_ok-frame.frame
    (sym (c.target_of.ensures (frame_at old call.frame)) ∙ c.in-Some-target_of.is) c.in_ok-frame.ensures.entry
