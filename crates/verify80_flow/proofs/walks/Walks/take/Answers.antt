use Rattle.std.proofs.Common.{subst}
use Rattle.std.specs.Prelude.{IfSome}
use Rattle.verify80_flow.specs.Walked.{IsWalked}
use Rattle.verify80_flow.proofs.WalkedLemmas.{all_and_one}
use Rattle.verify80_flow.proofs.walks.Walks.take.Goals as goal

pub returns-in_ok-add-in-Some-clause-walked : goal.returns-in_ok-add-in-Some-clause-walked
returns-in_ok-add-in-Some-clause-walked g c =
    let code = g.C.Code.code c.args.program.now in
    let one = subst (λ o. IfSome o (IsWalked code c.next.new.self.frames)) c.in-Some.is c.in_ok-point.ensures.next in
    all_and_one code c.next.new.self c.add.new.self c.in-Some.point c.add.ensures.frames c.in_ok-add-in-Some.ensures.points c.in_ok-point.ensures.walked one
