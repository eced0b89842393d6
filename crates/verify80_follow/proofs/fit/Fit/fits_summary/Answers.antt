use Rattle.std.specs.Prelude.{◌≡◌, All, List, Some, true}
use Rattle.std.proofs.Common.{arith, refl, subst}
use Rattle.verify80_states.specs.Known.{nothing_known}
use Rattle.verify80_follow.specs.declared.{followed.FollowedState.FollowedState, stack.StackBounds.StackBounds}
use Rattle.verify80_follow.specs.Follows.{FitsSummary, Has, Summarizes, beside_call, entered_stack}
use Rattle.verify80_follow.proofs.FitLemmas.{ok_maps}
use Rattle.verify80_follow.specs.Tables.{fitting_of}
use Rattle.verify80_follow.proofs.fit.Fit.fits_summary.Goals as goal

pub returns : goal.returns
returns c =
    let fit = c.args.self.now in
    let summary = c.args.summary.now in
    let states = c.deref.result.now in
    let bounds : StackBounds = record { top = fit.bounds.top; length = summary.bytes } in
    let Each : List FollowedState → Type 0 = λ (t : List FollowedState). All (Summarizes bounds (record (fitting_of fit) { table = t; bytes = summary.bytes })) t in
    ok_maps c.all_summarize.result (λ f. f ≡ true → Each states)
    (λ f. f ≡ true → FitsSummary (fitting_of fit) summary)
    (λ f summarize is. record {
      bounds = bounds;
      room = omega arith;
      start = subst (λ (t : List FollowedState). Has t summary.at nothing_known (beside_call (Some 2)) entered_stack) c.deref.ensures.value (c.if-not-has_called.ensures refl);
      states = subst Each c.deref.ensures.value (summarize is);
    }) c.all_summarize.ensures
