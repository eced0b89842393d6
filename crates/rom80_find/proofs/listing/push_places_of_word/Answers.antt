use Rattle.std.proofs.Common.{◌≡◌, ◌+◌, subst, arith, ℕ}
use Rattle.std.specs.Prelude.{slice_index_or}
use Rattle.rom80_find.specs.Blocks.{AreFitted}
use Rattle.rom80_find.specs.Listed.{Lists}
use Rattle.rom80_find.specs.Marks.{has_bit}
use Rattle.rom80_find.specs.Places.{ArePlaces}
use Rattle.rom80_find.proofs.PlaceLemmas.{lists_as, next_listed, none_in_word}
use Rattle.rom80_find.proofs.listing.push_places_of_word.Goals as goal

pub returns-then-alive-eq0-clause-places : goal.returns-then-alive-eq0-clause-places
returns-then-alive-eq0-clause-places c = λ dump code fixups fitted.
    let none = subst (λ (w : ℕ). AreFitted dump code fixups c.args.first 64 (has_bit w) c.args.wrong.now) c.if-alive-eq0.true fitted in
    lists_as (ArePlaces dump code c.args.first) (ArePlaces dump code (c.args.first + 64)) c.args.places.now
    (λ all are. none_in_word dump code fixups c.args.first c.args.wrong.now all none are)

pub loop-index-preserved : goal.loop-index-preserved
loop-index-preserved c =
    let index = c.loop-index.index in
    let more : c.args.first + index + 1 ≡ c.args.first + (index + 1) = omega arith in
    record {
      count = omega (arith, c.loop-index.invariant.count, c.in_ok-push_if.ensures.count);
      places = λ dump code fixups fitted h.
          subst (λ (n : ℕ). Lists (ArePlaces dump code n) c.push_if.new.self) more
          (next_listed dump code fixups (c.args.first + index) fitted.sorted (has_bit c.args.alive index) (fitted.passed index c.loop-index-test.true)
          c.loop-index.places c.push_if.new.self (c.loop-index.invariant.places dump code fixups fitted h) (slice_index_or c.args.wrong.now index 0)
          (λ on. fitted.fitted index c.loop-index-test.true on) c.is_place-lies.result c.is_place-lies.ensures c.in_ok-push_if.ensures.places);
    }

pub returns-clause-places : goal.returns-clause-places
returns-clause-places c = λ dump code fixups fitted h.
    let all : c.args.first + c.loop-index.index ≡ c.args.first + 64 = omega arith in
    subst (λ (n : ℕ). Lists (ArePlaces dump code n) c.loop-index.places) all (c.loop-index.invariant.places dump code fixups fitted h)
