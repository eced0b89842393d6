use Rattle.std.proofs.Common.{◌∙◌}
use Rattle.machine80.proofs.TargetLemmas.{searched}
use Rattle.machine80.proofs.stepping.is_target.Goals as goal

pub returns : goal.returns
returns c =
    c.is_ok.ensures.value ∙ searched c.args.targets.now c.requires c.args.to c.binary_search.result c.binary_search.ensures.bound c.binary_search.ensures.position
