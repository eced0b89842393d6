use Rattle.std.specs.Prelude.{◌≡◌, ◌≤◌, ℕ, List, [], Contains, true}
use Rattle.std.proofs.Common.{subst, ◌∙◌}
use Rattle.verify80_states.specs.Marks.{is_marked}
use Rattle.verify80_follow.specs.declared.calls.Summary.{Summary}
use Rattle.verify80_follow.specs.{Follows.Follows, Follows.places_among, Follows.ways_of, Promise.PromiseOf, Reaching.places_of, Tables.IsFit}
use Rattle.verify80_follow.proofs.{FitLemmas.ok_maps, PlaceLemmas.program_placed}
use Rattle.verify80_follow.proofs.fit.follows_marked.Goals as goal

pub returns : goal.returns
returns c =
    let image = c.args.image.now in
    let table = c.args.table.now in
    let run = c.args.run in
    let quiet = is_marked c.args.quiet.now in
    let places = places_of table [] in
    let Kept : List ℕ → Type 0 = λ (l : List ℕ). (f : Follows image run.interrupted quiet run.is_set (ways_of table.ways.items l) table.listed table.states.items table.bytes)
    × ((f.summaries ≡ table.summaries.items) × (table.bytes ≤ image.regions.stack.length)) in
    let kept : Kept c.deref.result.now → Kept places = λ (k : Kept c.deref.result.now). subst Kept (c.deref.ensures.value ∙ c.in_ok-places.ensures) k in
    record {
      promise = ok_maps c.fits.result (λ f. f ≡ true → Kept c.deref.result.now)
          (λ f. f ≡ true → PromiseOf run.interrupted image quiet run.is_set places table.ways.items table.listed table.bytes)
          (λ f fit is. let k = kept (fit is) in
          c.followed_programs_keep_the_promise.ensures.promise run.interrupted image quiet run.is_set places table.ways.items table.listed table.states.items table.bytes c.requires.rules c.requires.quiet k.0
          (λ at there. program_placed table [] at (subst (λ (l : List Summary). Contains (places_among table.states.items l) at) k.1.0 there)) k.1.1)
          c.fits.ensures.fits;
      fit = ok_maps c.fits.result (λ f. f ≡ true → Kept c.deref.result.now) (λ f. f ≡ true → IsFit image run.interrupted quiet run.is_set table [])
          (λ f fit is. let k = kept (fit is) in record { marked = quiet; within = λ at here. here; follows = k.0; summaries = k.1.0; room = k.1.1 })
          c.fits.ensures.fits;
    }
