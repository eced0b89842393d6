use Rattle.std.specs.Prelude.{◌≡◌, ◌≤◌, All, List, ℕ, true}
use Rattle.std.proofs.Common.{arith, refl, subst}
use Rattle.std.proofs.lemmas.Bool.Decides.{nat_tests}
use Rattle.image80.specs.Image.{Located}
use Rattle.verify80_states.specs.{Known.nothing_known, Marks.is_marked}
use Rattle.verify80_follow.specs.declared.{followed.FollowedState.FollowedState, followed.Way.Way, stack.StackBounds.StackBounds}
use Rattle.verify80_follow.specs.Held.{nothing_beside}
use Rattle.verify80_follow.specs.Stack.{bounds_of}
use Rattle.verify80_follow.specs.Follows.{FitsSummary, Fitting, Follows, Goes, Has, first_stack, fitting, ways_of}
use Rattle.verify80_follow.proofs.FitLemmas.{ok_maps}
use Rattle.verify80_follow.proofs.fit.fits.Goals as goal

pub returns : goal.returns
returns c =
    let image = c.args.image.now in
    let bytes = c.args.table.now.bytes in
    let listed = c.args.table.now.listed in
    let quiet = is_marked c.args.quiet.now in
    let is_set = c.args.run.is_set in
    let on = c.args.run.interrupted in
    let states = c.deref.result.now in
    let places = c.args.places.now in
    let ways = c.deref-3.result.now in
    let all = ways_of ways places in
    let summaries = c.deref-5.result.now in
    let same : c.in_ok-program.program ≡ image = c.in_ok-program.ensures in
    let fitted : Located → Fitting = λ (i : Located). fitting i on quiet c.args.code.now all listed summaries states bytes in
    let within = c.if-table-stack.false in
    let stack = c.stack.ensures in
    let Kept : List Way → List FollowedState → Type 0 = λ (l : List Way) (t : List FollowedState). (f : Follows image on quiet is_set (ways_of l places) listed t bytes) × ((f.summaries ≡ c.args.table.now.summaries.items) × (bytes ≤ image.regions.stack.length)) in
    record {
      fits = ok_maps c.all_go.result (λ f. f ≡ true → All (Goes c.bounds_of.result (fitted c.in_ok-program.program)) states)
          (λ f. f ≡ true → Kept c.args.table.now.ways.items c.args.table.now.states.items)
          (λ f follow is. subst (λ (l : List Way). Kept l c.args.table.now.states.items) c.deref-3.ensures.value
          (subst (λ (t : List FollowedState). Kept ways t) c.deref.ensures.value (
            record {
              code = c.args.code.now;
              are_code = c.requires.code;
              start = subst (λ (i : Located). Has states i.start nothing_known nothing_beside (first_stack is_set)) same (subst (λ (n : ℕ). Has states n nothing_known nothing_beside (first_stack is_set)) c.start.ensures (c.if-not-has_start.ensures refl));
              summaries = summaries;
              fit = subst (λ (i : Located). All (FitsSummary (fitted i)) summaries) same (c.in_ok-fits_summaries.ensures c.if-not-branch.false);
              states = subst (λ (i : Located). All (Goes (bounds_of i) (fitted i)) states) same (subst (λ (b : StackBounds). All (Goes b (fitted c.in_ok-program.program)) states) c.bounds_of.ensures (follow is));
            },
            (c.deref-5.ensures.value, subst (λ (i : Located). bytes ≤ i.regions.stack.length) same (grind (arith, nat_tests, within, stack))),
          ))) c.all_go.ensures;
    }
