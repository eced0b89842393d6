use Rattle.verify80.proofs.Headline.{own_start}
use Rattle.verify80.proofs.promise.runs_begin_from_power_on.Goals as goal

pub returns : goal.returns
returns c = own_start
