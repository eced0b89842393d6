use Rattle.std.proofs.Common.{rules}
use Rattle.verify80_explain.proofs.reaching.reached_point.Goals as goal

pub returns : goal.returns
returns g c = record {
  stands = record { frame = c.args.point.now.frame; walk = c.requires; depth = search rules };
  judged = c.in_ok-refusal.ensures;
}
