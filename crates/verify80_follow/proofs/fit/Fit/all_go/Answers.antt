use Rattle.std.specs.Prelude.{◌≡◌, Some, slice_get}
use Rattle.std.proofs.Common.{arith, below_more, get_or, subst}
use Rattle.std.proofs.lemmas.Option.{get_or_from_slice_get, slice_get-get_or}
use Rattle.verify80_follow.specs.Follows.{Goes}
use Rattle.verify80_follow.specs.Tables.{fitting_of}
use Rattle.verify80_follow.proofs.fit.Fit.all_go.Goals as goal

pub loop-place-preserved : goal.loop-place-preserved
loop-place-preserved c k s less there =
    let fit = c.args.self.now in
    below_more (λ n. slice_get fit.table.now n ≡ Some s → Goes fit.bounds (fitting_of fit) s) c.loop-place.place (λ n fewer at. c.loop-place.invariant n s fewer at)
    (λ at. subst (λ t. Goes fit.bounds (fitting_of fit) t) (get_or_from_slice_get fit.table.now c.loop-place.place s c.index-self-place.result at) (c.in_ok-goes.ensures c.if-not-branch.false)) k less there

pub returns : goal.returns
returns c is k d inside =
    let fit = c.args.self.now in
    let done = c.loop-place-test.false in
    c.loop-place.invariant k (get_or fit.table.now k d) (omega (arith, inside, done)) (slice_get-get_or fit.table.now k d inside)
