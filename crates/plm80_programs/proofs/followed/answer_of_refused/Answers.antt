use Rattle.std.specs.Prelude.{IfSome, Option}
use Rattle.plm80_programs.proofs.Names.{subst}
use Rattle.plm80_programs.specs.declared.followed.FollowedCode.{FollowedCode}
use Rattle.plm80_programs.specs.Followed.{IsFollowedCode}
use Rattle.plm80_programs.specs.Followed.SaysRefused.{followed}
use Rattle.plm80_programs.proofs.followed.answer_of_refused.Goals as goal

pub returns-in_ok-text-in-Some : goal.returns-in_ok-text-in-Some
returns-in_ok-text-in-Some g c =
    followed c.in_default.not-Memory c.in-Some.code c.in_ok-text-in-Some.text.items
    (subst (λ (found : Option FollowedCode). IfSome found (IsFollowedCode c.args.image.now)) c.in-Some.is c.in_ok-code.ensures)
    c.in_ok-text-in-Some.ensures c.prints.ensures
