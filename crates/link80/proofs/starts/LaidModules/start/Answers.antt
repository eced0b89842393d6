use Rattle.std.specs.Prelude.{length}
use Rattle.std.proofs.Common.{ap, arith}
use Rattle.link80.specs.Starts.{LaidOutValue}
use Rattle.link80.proofs.StartsLemmas.{starts_count}
use Rattle.link80.proofs.starts.LaidModules.start.Goals as goal

pub start-requires : goal.start-requires
start-requires c = omega (
  arith,
  c.requires,
  ap (λ (p : LaidOutValue). length p.starts) c.in-Some.ensures.laid,
  starts_count c.args.id 0
      c.args.self.now,
)
