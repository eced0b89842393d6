use Rattle.std.specs.Prelude.{◌≡◌, ◌<◌, ℕ, false, true, slice_index_or}
use Rattle.verify80_follow.proofs.handling.are_apart.Given as goal

abbrev pub invariant-loop-at : goal.invariant-loop-at
invariant-loop-at l = (k : ℕ) → k < l.at → slice_index_or l.one k false ≡ true → slice_index_or l.other k false ≡ false
