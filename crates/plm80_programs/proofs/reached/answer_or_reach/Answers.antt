use Rattle.plm80_programs.proofs.Names.{IfOk-weaker, Located, subst}
use Rattle.plm80_programs.specs.Reached.{ShowsRefusals}
use Rattle.plm80_programs.specs.Reached.AnswersReach.{accepted, refused}
use Rattle.plm80_programs.proofs.reached.answer_or_reach.Goals as goal

pub returns-in-Ok : goal.returns-in-Ok
returns-in-Ok g c =
    accepted c.in-Ok.vouched (record { image_is = c.in-Ok.ensures.image; vouched = c.in-Ok.ensures.vouched })
    (record { text = c.in_ok-text-in-Ok.text.items; says = c.in_ok-text-in-Ok.ensures; answer_is = c.prints.ensures })

pub returns : goal.returns
returns g c =
    IfOk-weaker c.answer_of_reach.result _ _
    (λ answer shows. refused c.in-Err.refusal c.in-Err.ensures.refused
    (subst (λ (i : Located). ShowsRefusals (g.P.Reaching.shows c.args.printing i c.args.names.now) i c.in-Err.refusal answer)
    c.in-Err.ensures.handed_back shows))
    c.answer_of_reach.ensures
