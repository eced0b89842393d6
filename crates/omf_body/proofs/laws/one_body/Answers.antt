use Rattle.omf_body.proofs.Bodies.{one_body}
use Rattle.omf_body.proofs.laws.one_body.Goals as goal

pub returns : goal.returns
returns c = one_body
