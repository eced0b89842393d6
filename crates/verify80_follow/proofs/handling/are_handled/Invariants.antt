use Rattle.std.specs.Prelude.{◌≡◌, ◌<◌, ℕ, Some, slice_get}
use Rattle.verify80_states.specs.Marks.{is_marked}
use Rattle.verify80_follow.specs.declared.handling.Handler.{Handler}
use Rattle.verify80_follow.specs.Handling.{IsHandled}
use Rattle.verify80_follow.proofs.handling.are_handled.Given as goal

abbrev pub invariant-loop-place : goal.invariant-loop-place
invariant-loop-place l = (k : ℕ) (h : Handler) → k < l.place → slice_get l.handlers k ≡ Some h → IsHandled l.image l.around.main.now (is_marked l.around.writes.marks.now) (is_marked l.looked.quiet.now) l.around.places.now l.around.listed.now l.around.most h
