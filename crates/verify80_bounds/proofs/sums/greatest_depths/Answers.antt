use Rattle.std.proofs.Common.{List, arith, subst, ◌∙◌}
use Rattle.std.proofs.lemmas.Int.{ints}
use Rattle.std.proofs.lemmas.List.{get_or_read, length-set, take_all}
use Rattle.verify80_bounds.specs.declared.graph.Depth.{Depth}
use Rattle.verify80_bounds.specs.Sums.{AreDepths}
use Rattle.verify80_bounds.proofs.SumLemmas.{depth_at, no_depth, no_depths, none_of}
use Rattle.verify80_bounds.proofs.sums.greatest_depths.Goals as goal

pub loop-depth-init : goal.loop-depth-init
loop-depth-init c = (no_depths c.in_ok-sums.sums.items (none_of c.in_ok-sums.sums.items 0 c.in_ok-sums.ensures.values), c.in_ok-sums.ensures.places)

pub loop-depth-preserved : goal.loop-depth-preserved
loop-depth-preserved c =
    let modest = c.requires c.loop-depth.depth-index no_depth c.loop-depth-test.true in (
      depth_at c.args.depths.now c.loop-depth.sums.items c.loop-depth.depth-index c.slot-place.result c.raise.result c.index.result.now _
          c.loop-depth-test.true c.slot-place.ensures.is (omega (arith, c.loop-depth.invariant.1, c.slot-place.ensures.within))
          (get_or_read c.loop-depth.sums.items c.slot-place.result c.index.result.now (omega (arith, c.loop-depth.invariant.1, c.slot-place.ensures.within)) c.index.ensures 0)
          (omega (arith, ints, modest.low, modest.high)) c.raise.ensures modest c.loop-depth.invariant.0,
      length-set c.loop-depth.sums.items c.slot-place.result c.raise.result ∙ c.loop-depth.invariant.1,
    )

pub index-requires : goal.index-requires
index-requires c = omega (arith, c.loop-depth.invariant.1, c.slot-place.ensures.within)

pub index_mut-requires : goal.index_mut-requires
index_mut-requires c = omega (arith, c.loop-depth.invariant.1, c.slot-place.ensures.within)

pub returns-clause-depths : goal.returns-clause-depths
returns-clause-depths c =
    subst (λ (l : List Depth). AreDepths l c.loop-depth.sums.items)
    (take_all c.loop-depth.depth-index c.args.depths.now (omega (arith, c.loop-depth-test.false))) c.loop-depth.invariant.0

pub returns-clause-slots : goal.returns-clause-slots
returns-clause-slots c = c.loop-depth.invariant.1
