use Rattle.std.specs.Prelude.{◌≡◌, All, IfOk, List, true}
use Rattle.std.proofs.Common.{subst}
use Rattle.verify80_states.specs.Marks.{is_marked}
use Rattle.verify80_follow.specs.declared.followed.FollowedState.{FollowedState}
use Rattle.verify80_follow.specs.Handling.{IsHandled}
use Rattle.verify80_follow.proofs.handling.are_all_handled.Goals as goal

pub returns : goal.returns
returns c =
    let looked = c.args.looked in
    subst (λ (main : List FollowedState). IfOk c.are_handled.result (λ handled. handled ≡ true → All (IsHandled c.args.image.now main (is_marked looked.written.now) (is_marked looked.quiet.now) c.args.places.now c.args.table.now.listed c.args.most) c.args.handlers.now))
    c.deref-2.ensures.value c.are_handled.ensures
