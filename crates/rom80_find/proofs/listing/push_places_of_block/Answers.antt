use Rattle.std.proofs.Common.{◌≡◌, ◌+◌, ◌*◌, subst, arith, refl, ℕ}
use Rattle.std.specs.Prelude.{slice_index_or, slice_range}
use Rattle.rom80_find.specs.Listed.{Lists}
use Rattle.rom80_find.specs.Places.{ArePlaces}
use Rattle.rom80_find.proofs.PlaceLemmas.{word_fitted}
use Rattle.rom80_find.proofs.TableLemmas.{part_at}
use Rattle.rom80_find.proofs.listing.push_places_of_block.Goals as goal

pub loop-word-preserved : goal.loop-word-preserved
loop-word-preserved c =
    let block = c.args.block in
    let w = c.loop-word.word in
    let alive = c.args.alive.now in
    let wrong = c.args.wrong.now in
    let more : 4096 * block + 64 * w + 64 ≡ 4096 * block + 64 * (w + 1) = omega arith in
    record {
      count = omega (arith, c.in_ok-push_places_of_word.ensures.count);
      places = λ dump code fixups fitted h.
          subst (λ (n : ℕ). Lists (ArePlaces dump code n) c.push_places_of_word.new.places) more
          (c.in_ok-push_places_of_word.ensures.places dump code fixups
          (word_fitted dump code fixups alive wrong (slice_range wrong (64 * w) (64 * w + 64)) block w (slice_index_or alive (64 * block + w) 0) c.loop-word-test.true fitted refl
          (λ i li. part_at wrong (64 * w) 64 i 0 li))
          (c.loop-word.invariant.places dump code fixups fitted h));
    }

pub returns-clause-places : goal.returns-clause-places
returns-clause-places c = λ dump code fixups fitted h.
    let all : 4096 * c.args.block + 64 * c.loop-word.word ≡ 4096 * (c.args.block + 1) = omega arith in
    subst (λ (n : ℕ). Lists (ArePlaces dump code n) c.loop-word.places) all (c.loop-word.invariant.places dump code fixups fitted h)
