use Rattle.std.proofs.Common.{◌≡◌, ◌==◌, ◌∙◌, [], ap, sym, length}
use Rattle.image80.proofs.CaseTextLemmas.{AreLeft, left_after, none_left}
use Rattle.image80.proofs.case_line.put_targets.Goals as goal

pub returns-clause-whole : goal.returns-clause-whole
returns-clause-whole c = λ others words is.
    let left : AreLeft c.loop-target.rest.now = left_after c.loop-target.targets.items others c.loop-target.rest.now words (sym c.loop-target.invariant.spelled ∙ is) in
    let empty : c.loop-target.rest.now ≡ [] = none_left c.loop-target.rest.now left c.in_default.ensures.none in
    c.is_empty.ensures ∙ ap (λ rest. length rest == 0) empty
