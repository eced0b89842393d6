use Rattle.plm80_programs.proofs.Names.{◌∙◌, ap, subst, codes, prints, List, Located, ℕ}
use Rattle.image80.specs.declared.range.Range.{Range}
use Rattle.image80_text.specs.NameText.{named_text}
use Rattle.plm80_programs.specs.Following.{IsFollowedAllBy}
use Rattle.plm80_programs.specs.Following.SaysFollowed.{followed, live, stopped}
use Rattle.plm80_programs.proofs.follow.answer_of_following.Goals as goal

pub returns-in_ok-answer-in-Alone : goal.returns-in_ok-answer-in-Alone
returns-in_ok-answer-in-Alone c =
    let asked = c.args.asked in
    let kept = subst (IsFollowedAllBy asked.interrupted asked.handlers.now asked.quiet.now c.args.image.now) c.in-Alone.is c.in_ok-found.ensures in
    followed c.in-Alone.table c.in-Alone.is_set kept.0 kept.1 c.in_ok-answer-in-Alone.ensures

pub returns-in_ok-answer-in-Live : goal.returns-in_ok-answer-in-Live
returns-in_ok-answer-in-Live c =
    let asked = c.args.asked in
    let kept = subst (IsFollowedAllBy asked.interrupted asked.handlers.now asked.quiet.now c.args.image.now) c.in-Live.is c.in_ok-found.ensures in
    live c.in-Live.found kept.0 kept.1.0 kept.1.1 c.in_ok-answer-in-Live.ensures

pub returns-in_ok-text-in-Stopped-2 : goal.returns-in_ok-text-in-Stopped-2
returns-in_ok-text-in-Stopped-2 c =
    let image = c.args.image.now in
    let names = c.args.names.now in
    let stop = c.in-Stopped.stop in
    let code = c.code.ensures.ranges ∙ ap (λ (i : Located). i.regions.code) c.image.view_is in
    stopped stop.at stop.reason
    (c.prints.ensures
    ∙ ap (λ (l : List ℕ). prints l 1)
    (c.in_ok-text-in-Stopped-2.ensures.named
    ∙ ap (λ (ranges : List Range). named_text ranges names (codes "STOPPED ") c.in_ok-text-in-Stopped.text.items) code
    ∙ ap (λ (l : List ℕ). named_text image.regions.code names (codes "STOPPED ") l) c.in_ok-text-in-Stopped.ensures))
