use Rattle.std.proofs.Common.{◌≡◌, ◌<◌, ℕ, false, get_or}
use Rattle.std.specs.Prelude.{◌==◌}
use Rattle.board80.proofs.digits.space.Given as goal

-- no space stands before this place
abbrev pub invariant-loop-place : goal.invariant-loop-place
invariant-loop-place l = (k : ℕ) → k < l.place → (get_or l.text k 0 == 32) ≡ false
