use Rattle.std.proofs.Common.{arith}
use Rattle.std.proofs.lemmas.Int.{ints}
use Rattle.verify80_bounds.proofs.SumLemmas.{sum_after}
use Rattle.verify80_bounds.proofs.sums.absorb.Goals as goal

pub returns : goal.returns
returns c =
    let s = c.requires.small.small c.slot.result in
    sum_after c.args.sums.now c.args.call.now c.slot-caller.result c.slot.result _ c.raise.result c.slot-caller.ensures.is c.slot.ensures.is (omega (arith, c.slot-caller.ensures.within, c.requires.slots))
    (omega (arith, ints, c.requires.modest.low, c.requires.modest.high, s)) c.raise.ensures
