use Rattle.std.proofs.Common.{arith}
use Rattle.link80.proofs.segments.join_commons.Goals as goal

pub index-requires : goal.index-requires
index-requires c = omega (arith, c.in-Some.ensures.within, c.requires, c.loop-common.invariant.1, c.loop-common.segments.ok.0)

pub index_mut-requires : goal.index_mut-requires
index_mut-requires c = omega (arith, c.in-Some.ensures.within, c.requires, c.loop-common.invariant.1, c.loop-common.segments.ok.0)
