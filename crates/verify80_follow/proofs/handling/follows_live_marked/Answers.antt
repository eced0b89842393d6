use Rattle.std.specs.Prelude.{◌≡◌, ◌≤◌, ◌+◌, ℕ, List, [], ◌∷◌, All, Contains, map, true}
use Rattle.std.proofs.Common.{arith, get_or, refl, subst, ◌∙◌}
use Rattle.verify80_states.specs.Marks.{is_marked}
use Rattle.verify80_follow.specs.declared.{calls.Summary.Summary, handling.Handler.Handler}
use Rattle.verify80_follow.specs.{Follows.Follows, Follows.places_among, Follows.ways_of, Handling.HandlesAmong, Handling.IsHandled, Reaching.places_of}
use Rattle.verify80_follow.specs.Live.{HandlerBounds, handler_ways}
use Rattle.verify80_follow.specs.Tables.{AreFit, PromiseOfTables}
use Rattle.verify80_follow.proofs.{FitLemmas.each_handled, FitLemmas.handled_alone, FitLemmas.ok_maps, PlaceLemmas.program_placed}
use Rattle.verify80_follow.proofs.handling.follows_live_marked.Goals as goal

pub returns : goal.returns
returns c =
    let image = c.args.image.now in
    let table = c.args.table.now in
    let quiet = is_marked c.args.looked.quiet.now in
    let written = is_marked c.args.looked.written.now in
    let most = c.args.most in
    let handlers = c.args.handlers.now in
    let places = places_of table handlers in
    let states = table.states.items in
    let Kept_at : List ℕ → Type 0 = λ (l : List ℕ). (f : Follows image true quiet c.args.is_set (ways_of table.ways.items l) table.listed states table.bytes)
    × ((f.summaries ≡ table.summaries.items) × (table.bytes ≤ image.regions.stack.length)) in
    let main : Kept_at places = subst Kept_at (c.deref.ensures.value ∙ c.in_ok-places.ensures) (c.in_ok-fits.ensures.fits c.if-not-branch.false) in
    let placed : (at : ℕ) → Contains (places_among states main.0.summaries) at → Contains places at = λ at is.
    program_placed table handlers at (subst (λ (l : List Summary). Contains (places_among states l) at) main.1.0 is) in
    let room = c.if-not-has_room_for.ensures refl in
    let bounds : (bytes : ℕ) → HandlerBounds = λ (bytes : ℕ). record { written = written; bytes = bytes; ways = handler_ways handlers } in
    let Handled_at : List ℕ → Type 0 = λ (l : List ℕ). All (IsHandled image states written quiet l table.listed most) handlers in
    let Handled : Type 0 = Handled_at c.deref-2.result.now in
    let handled_at : Handled → Handled_at places = λ (h : Handled). subst Handled_at (c.deref-2.ensures.value ∙ c.in_ok-places.ensures) h in
    let Kept : (addresses : List ℕ) (bytes : ℕ) → Type 0 = λ (addresses : List ℕ) (bytes : ℕ). PromiseOfTables image quiet written c.args.is_set table handlers addresses bytes in
    let Among : (bytes at : ℕ) → Type 0 = λ (bytes at : ℕ). HandlesAmong image states written quiet (handler_ways handlers) places table.listed bytes at in
    let kept : (addresses : List ℕ) (bytes : ℕ) → ((at : ℕ) → Contains addresses at → Among bytes at) → table.bytes + bytes ≤ image.regions.stack.length → Kept addresses bytes =
    λ (addresses : List ℕ) (bytes : ℕ) (tables : (at : ℕ) → Contains addresses at → Among bytes at) (fit : table.bytes + bytes ≤ image.regions.stack.length).
    c.live_machines_keep_the_promise.ensures.promise image quiet c.args.is_set addresses places table.ways.items table.listed states table.bytes (bounds bytes) c.requires.rules c.requires.quiet
    (c.if-not-are_apart.ensures refl) main.0 placed tables fit in
    record {
      promise = ok_maps c.are_all_handled.result (λ f. f ≡ true → Handled) (λ f. f ≡ true → Kept (map (λ h. h.at) handlers) most)
          (λ f handled is. kept (map (λ (h : Handler). h.at) handlers) most (each_handled image table written quiet most handlers (handled_at (handled is))) room)
          c.are_all_handled.ensures;
      each = ok_maps c.are_all_handled.result (λ f. f ≡ true → Handled) (λ f. f ≡ true → All (λ h. Kept (h.at ∷ []) h.table.bytes) handlers)
          (λ f handled is k d inside. kept ((get_or handlers k d).at ∷ []) (get_or handlers k d).table.bytes (handled_alone image table written quiet most handlers (handled_at (handled is)) k d inside)
          (let few = (handled is k d inside).few in omega (arith, few, room)))
          c.are_all_handled.ensures;
      fit = ok_maps c.are_all_handled.result (λ f. f ≡ true → Handled) (λ f. f ≡ true → AreFit image quiet written c.args.is_set table handlers most)
          (λ f handled is. record {
            program = record { marked = quiet; within = λ at here. here; follows = main.0; summaries = main.1.0; room = main.1.1 };
            writes = written;
            inside = λ at here. here;
            apart = c.if-not-are_apart.ensures refl;
            handled = handled_at (handled is);
            room = room;
          })
          c.are_all_handled.ensures;
    }
