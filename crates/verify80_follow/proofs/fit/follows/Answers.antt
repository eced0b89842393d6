use Rattle.std.specs.Prelude.{◌≡◌, ℕ, Bool, true, List, []}
use Rattle.std.proofs.Common.{subst}
use Rattle.image80.specs.Image.{Located}
use Rattle.verify80_states.specs.{Marks.is_marked, QuietBoards.is_quiet}
use Rattle.verify80_follow.specs.{Promise.PromiseOf, Reaching.places_of, Tables.IsFit}
use Rattle.verify80_follow.proofs.FitLemmas.{fit_of_more, ok_maps, promise_of_more}
use Rattle.verify80_follow.proofs.fit.follows.Goals as goal

pub returns : goal.returns
returns c =
    let image = c.args.image.now in
    let table = c.args.table.now in
    let marked = is_marked c.deref-2.result.now in
    let quiet = is_quiet image.regions c.args.quiet.now in
    let run = c.args.run in
    let places = places_of table [] in
    let within : (at : ℕ) → is_marked c.in_ok-marks.marks.items at ≡ true → quiet at ≡ true = λ at is. subst (λ (i : Located). is_quiet i.regions c.args.quiet.now at ≡ true) c.image.view_is (c.in_ok-marks.ensures at is) in
    record {
      promise = ok_maps c.follows_marked.result (λ f. f ≡ true → PromiseOf run.interrupted image marked run.is_set places table.ways.items table.listed table.bytes)
          (λ f. f ≡ true → PromiseOf run.interrupted image quiet run.is_set places table.ways.items table.listed table.bytes)
          (λ f promise is. promise_of_more run.interrupted image marked quiet run.is_set places table.ways.items table.listed table.bytes (λ at marked_here. within at (subst (λ (l : List Bool). is_marked l at ≡ true) c.deref-2.ensures.value marked_here)) (promise is))
          c.follows_marked.ensures.promise;
      fit = ok_maps c.follows_marked.result (λ f. f ≡ true → IsFit image run.interrupted marked run.is_set table []) (λ f. f ≡ true → IsFit image run.interrupted quiet run.is_set table [])
          (λ f fit is. fit_of_more image run.interrupted marked quiet run.is_set table [] (λ at marked_here. within at (subst (λ (l : List Bool). is_marked l at ≡ true) c.deref-2.ensures.value marked_here)) (fit is))
          c.follows_marked.ensures.fit;
    }
