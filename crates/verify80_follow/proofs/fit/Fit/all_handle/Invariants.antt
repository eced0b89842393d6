use Rattle.std.specs.Prelude.{◌≡◌, ◌<◌, ℕ, Some, slice_get}
use Rattle.verify80_states.specs.Marks.{is_marked}
use Rattle.verify80_follow.specs.declared.followed.FollowedState.{FollowedState}
use Rattle.verify80_follow.specs.Handling.{Handles}
use Rattle.verify80_follow.specs.Tables.{fitting_of}
use Rattle.verify80_follow.proofs.fit.Fit.all_handle.Given as goal

abbrev pub invariant-loop-place : goal.invariant-loop-place
invariant-loop-place l = (k : ℕ) (s : FollowedState) → k < l.place → slice_get l.self.table.now k ≡ Some s →
    Handles l.around.main.now (is_marked l.around.writes.marks.now) l.self.bounds (fitting_of l.self) s
