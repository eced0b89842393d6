use Rattle.std.specs.Prelude.{◌≡◌, ℕ, Bool, List, [], ◌∷◌, All, map, true}
use Rattle.std.proofs.Common.{subst}
use Rattle.image80.specs.Image.{Located}
use Rattle.verify80_states.specs.{Marks.is_marked, QuietBoards.is_quiet}
use Rattle.verify80_follow.specs.{Live.handler_ways, Reaching.places_of, Tables.AreFit, Tables.PromiseOfTables}
use Rattle.verify80_follow.proofs.{FitLemmas.are_fit_of_more, FitLemmas.live_of_more, FitLemmas.ok_maps, HeldLemmas.all_of}
use Rattle.verify80_follow.proofs.handling.follows_live.Goals as goal

pub returns : goal.returns
returns c =
    let image = c.args.image.now in
    let table = c.args.table.now in
    let handlers = c.args.handlers.now in
    let addresses = map (λ h. h.at) handlers in
    let run = c.args.run in
    let marked = is_marked c.deref-2.result.now in
    let written = is_marked c.deref-3.result.now in
    let quiet = is_quiet image.regions run.quiet.now in
    let after = is_quiet image.regions run.writes.now in
    let within : (at : ℕ) → is_marked c.in_ok-marks.marks.items at ≡ true → quiet at ≡ true = λ at is. subst (λ (i : Located). is_quiet i.regions run.quiet.now at ≡ true) c.image.view_is (c.in_ok-marks.ensures at is) in
    let inside : (at : ℕ) → is_marked c.in_ok-written.written.items at ≡ true → after at ≡ true = λ at is. subst (λ (i : Located). is_quiet i.regions run.writes.now at ≡ true) c.image.view_is (c.in_ok-written.ensures at is) in
    let places = places_of table handlers in
    let Kept : (addresses : List ℕ) (bytes : ℕ) → Type 0 = λ (addresses : List ℕ) (bytes : ℕ). PromiseOfTables image marked written run.is_set table handlers addresses bytes in
    let Keeps : (addresses : List ℕ) (bytes : ℕ) → Type 0 = λ (addresses : List ℕ) (bytes : ℕ). PromiseOfTables image quiet after run.is_set table handlers addresses bytes in
    let more : (addresses : List ℕ) (bytes : ℕ) → Kept addresses bytes → Keeps addresses bytes = λ (addresses : List ℕ) (bytes : ℕ) (promise : Kept addresses bytes).
    live_of_more image marked quiet run.is_set addresses places table.ways.items table.listed table.bytes (record { written = written; bytes = bytes; ways = handler_ways handlers }) after
    (λ at marked_here. within at (subst (λ (l : List Bool). is_marked l at ≡ true) c.deref-2.ensures.value marked_here))
    (λ at marked_here. inside at (subst (λ (l : List Bool). is_marked l at ≡ true) c.deref-3.ensures.value marked_here)) promise in
    record {
      promise = ok_maps c.follows_live_marked.result (λ f. f ≡ true → Kept addresses run.most) (λ f. f ≡ true → Keeps addresses run.most)
          (λ f promise is. more addresses run.most (promise is)) c.follows_live_marked.ensures.promise;
      each = ok_maps c.follows_live_marked.result (λ f. f ≡ true → All (λ h. Kept (h.at ∷ []) h.table.bytes) handlers) (λ f. f ≡ true → All (λ h. Keeps (h.at ∷ []) h.table.bytes) handlers)
          (λ f each is. all_of (λ h. Kept (h.at ∷ []) h.table.bytes) (λ h. Keeps (h.at ∷ []) h.table.bytes) handlers (λ h promise. more (h.at ∷ []) h.table.bytes promise) (each is)) c.follows_live_marked.ensures.each;
      fit = ok_maps c.follows_live_marked.result (λ f. f ≡ true → AreFit image marked written run.is_set table handlers run.most)
          (λ f. f ≡ true → AreFit image quiet after run.is_set table handlers run.most)
          (λ f fit is. are_fit_of_more image marked quiet written after run.is_set table handlers run.most
          (λ at marked_here. within at (subst (λ (l : List Bool). is_marked l at ≡ true) c.deref-2.ensures.value marked_here))
          (λ at marked_here. inside at (subst (λ (l : List Bool). is_marked l at ≡ true) c.deref-3.ensures.value marked_here)) (fit is))
          c.follows_live_marked.ensures.fit;
    }
