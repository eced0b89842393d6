use Rattle.verify80.proofs.Headline.{from_power_on}
use Rattle.verify80.proofs.promise.fitted_images_never_go_wrong.Goals as goal

pub returns : goal.returns
returns c = λ image bytes rules fitted enough.
    from_power_on image bytes (c.images_never_go_wrong_from_power_on.ensures image bytes rules fitted enough)
