use Rattle.std.specs.Prelude.{◌≡◌, Some, slice_get}
use Rattle.std.proofs.Common.{arith, below_more, get_or, subst, ◌∙◌}
use Rattle.std.proofs.lemmas.Option.{get_or_from_slice_get, slice_get-get_or}
use Rattle.verify80_states.specs.Marks.{is_marked}
use Rattle.verify80_follow.specs.Handling.{IsHandled}
use Rattle.verify80_follow.proofs.handling.are_handled.Goals as goal

pub loop-place-preserved : goal.loop-place-preserved
loop-place-preserved c k h less there =
    let image = c.args.image.now in
    let main = c.args.around.main.now in
    let written = is_marked c.args.around.writes.marks.now in
    let quiet = is_marked c.args.looked.quiet.now in
    below_more (λ n. slice_get c.args.handlers.now n ≡ Some h → IsHandled image main written quiet c.args.around.places.now c.args.around.listed.now c.args.around.most h) c.loop-place.place (λ n fewer at. c.loop-place.invariant n h fewer at)
    (λ at. subst (λ t. IsHandled image main written quiet c.args.around.places.now c.args.around.listed.now c.args.around.most t) (c.index-handlers-place.is ∙ get_or_from_slice_get c.args.handlers.now c.loop-place.place h c.index-handlers-place.result at) (c.in_ok-is_handled.ensures c.if-not-branch.false)) k less there

pub returns : goal.returns
returns c is k d inside =
    let done = c.loop-place-test.false in
    c.loop-place.invariant k (get_or c.args.handlers.now k d) (omega (arith, inside, done)) (slice_get-get_or c.args.handlers.now k d inside)
