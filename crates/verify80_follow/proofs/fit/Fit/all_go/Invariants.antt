use Rattle.std.specs.Prelude.{◌≡◌, ◌<◌, ℕ, Some, slice_get}
use Rattle.verify80_follow.specs.declared.followed.FollowedState.{FollowedState}
use Rattle.verify80_follow.specs.Follows.{Goes}
use Rattle.verify80_follow.specs.Tables.{fitting_of}
use Rattle.verify80_follow.proofs.fit.Fit.all_go.Given as goal

abbrev pub invariant-loop-place : goal.invariant-loop-place
invariant-loop-place l = (k : ℕ) (s : FollowedState) → k < l.place → slice_get l.self.table.now k ≡ Some s →
    Goes l.self.bounds (fitting_of l.self) s
