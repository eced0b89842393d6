use Rattle.std.specs.Prelude.{IfOk}
use Rattle.std.proofs.Common.{subst}
use Rattle.image80.specs.Image.{Located}
use Rattle.verify80.specs.Looking.{code_of}
use Rattle.verify80_explain.specs.Reaching.{AreReachedOn}
use Rattle.verify80_explain.proofs.reaching.reach_all.Goals as goal

pub returns : goal.returns
returns c =
    subst (λ (i : Located). IfOk c.reach_on_found.result (AreReachedOn (code_of i))) c.in_ok-code.ensures c.reach_on_found.ensures
