use Rattle.std.proofs.Common.{ap, subst}
use Rattle.image80.specs.Regions.{AreRegions}
use Rattle.image80.specs.Image.{Located}
use Rattle.verify80.proofs.vouched.runs_as_verified.Goals as goal

pub returns-clause-watched : goal.returns-clause-watched
returns-clause-watched c = λ bytes fitted enough.
    c.fitted_images_never_go_wrong.ensures c.args.image.now bytes
    (subst AreRegions (ap (λ (i : Located). i.regions) c.image.view_is) c.stack.ensures.rules) fitted enough

pub returns-clause-from_power_on : goal.returns-clause-from_power_on
returns-clause-from_power_on c = λ bytes fitted enough.
    c.images_never_go_wrong_from_power_on.ensures c.args.image.now bytes
    (subst AreRegions (ap (λ (i : Located). i.regions) c.image.view_is) c.stack.ensures.rules) fitted enough
