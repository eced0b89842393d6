use Rattle.plm80_programs.proofs.Names.{IfOk-weaker, Located, subst}
use Rattle.plm80_programs.specs.Followed.{SaysRefused}
use Rattle.plm80_programs.specs.Followed.AnswersFollowed.{accepted, refused}
use Rattle.plm80_programs.proofs.followed.answer_or_follow.Goals as goal

pub returns-in-Ok : goal.returns-in-Ok
returns-in-Ok g c =
    accepted c.in-Ok.vouched (record { image_is = c.in-Ok.ensures.image; vouched = c.in-Ok.ensures.vouched })
    (record { text = c.in_ok-text-in-Ok.text.items; says = c.in_ok-text-in-Ok.ensures; answer_is = c.prints.ensures })

pub returns : goal.returns
returns g c =
    IfOk-weaker c.answer_of_refused.result _ _
    (λ answer says. refused c.in-Err.refusal c.in-Err.ensures.refused
    (subst (λ (i : Located). SaysRefused (g.P.Reaching.shows c.args.printing i c.args.names.now) (g.P.Following.lists c.args.printing i c.args.names.now)
    i c.in-Err.refusal answer) c.in-Err.ensures.handed_back says))
    c.answer_of_refused.ensures
