use Rattle.std.specs.Prelude.{[]}
use Rattle.std.proofs.Common.{◌≡◌, ◌*◌, arith, subst, ℕ}
use Rattle.rom80_find.specs.Listed.{Lists}
use Rattle.rom80_find.specs.Places.{ArePlaces}
use Rattle.rom80_find.proofs.PlaceLemmas.{block_fitted, no_places}
use Rattle.rom80_find.proofs.listing.fitting_places.Goals as goal

pub loop-block-init : goal.loop-block-init
loop-block-init c = record {
  count = omega (arith, c.new-places.ensures.count_is);
  places = λ code sieved sorted. record { all = []; are = no_places c.args.dump.now code; shows = c.new-places.ensures };
}

pub loop-block-preserved : goal.loop-block-preserved
loop-block-preserved c = record {
  count = c.in_ok-push_places_of_block.ensures.count;
  places = λ code sieved sorted.
      c.in_ok-push_places_of_block.ensures.places c.args.dump.now code c.args.fixups.now
      (block_fitted c.args.dump.now code c.args.fixups.now c.args.alive.now c.wrong_addresses-wrong.result c.loop-block.block c.loop-block-test.true sieved sorted
      c.wrong_addresses-wrong.ensures.each)
      (c.loop-block.invariant.places code sieved sorted);
}

pub returns : goal.returns
returns c = λ code sieved sorted.
    let all : 4096 * c.loop-block.block ≡ 65536 = omega arith in
    subst (λ (n : ℕ). Lists (ArePlaces c.args.dump.now code n) c.loop-block.places) all (c.loop-block.invariant.places code sieved sorted)
