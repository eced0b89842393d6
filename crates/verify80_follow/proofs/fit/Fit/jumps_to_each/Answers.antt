use Rattle.std.specs.Prelude.{◌≡◌, ℕ, Contains, List, Some, false, slice_get}
use Rattle.std.proofs.Common.{arith, below_more, subst, sym}
use Rattle.std.proofs.lemmas.Option.{get_or_from_slice_get}
use Rattle.verify80_spans.specs.Span.{Within}
use Rattle.verify80_follow.specs.Follows.{CoversThen}
use Rattle.verify80_follow.proofs.FitLemmas.{at_place}
use Rattle.verify80_follow.specs.Tables.{fitting_of}
use Rattle.verify80_follow.proofs.fit.Fit.jumps_to_each.Goals as goal

pub loop-place-preserved : goal.loop-place-preserved
loop-place-preserved c k to less there within =
    let fit = c.args.self.now in
    let state = c.args.here.state.now in
    below_more (λ n. slice_get c.targets-targets.result.now n ≡ Some to → Within state.known.hl.words to → CoversThen fit.bounds (fitting_of fit) state c.args.here.found false to state.known) c.loop-place.place
    (λ n fewer at inside. c.loop-place.invariant n to fewer at inside)
    (λ at inside. subst (λ n. Within state.known.hl.words n → CoversThen fit.bounds (fitting_of fit) state c.args.here.found false n state.known) (get_or_from_slice_get c.targets-targets.result.now c.loop-place.place to 0 at)
    (c.in_ok-covers_target.ensures c.if-not-branch.false) inside) k less there within

pub returns : goal.returns
returns c is to contained within =
    let has : Contains c.targets-targets.result.now to = subst (λ (l : List ℕ). Contains l to) (sym c.targets-targets.ensures) contained in
    c.loop-place.invariant has.0 to (let inside = has.1 in let done = c.loop-place-test.false in omega (arith, inside, done)) (at_place c.targets-targets.result.now to has) within
