use Rattle.std.proofs.Common.{[], ◌∷◌, refl, ap, ◌∙◌}
use Rattle.image80.specs.RegionsText.IsFirstBadLine.{in_heading}
use Rattle.image80.proofs.read.after_heading.Goals as goal

pub returns-in-Some-of_heading-2-clause-refused : goal.returns-in-Some-of_heading-2-clause-refused
returns-in-Some-of_heading-2-clause-refused c =
    in_heading c.in-Some-of_heading-2.field-0 refl (c.in-None.ensures.absent ∙ ap (λ line. line ∷ []) c.in-Some-of_heading-2.ensures.known)
