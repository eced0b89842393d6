use Rattle.std.specs.Prelude.{◌≡◌, ℕ, Some, [], true, length}
use Rattle.verify80_states.specs.{Known.nothing_known, Marks.is_marked}
use Rattle.verify80_follow.specs.{Follows.Has, Held.nothing_beside}
use Rattle.verify80_follow.proofs.handling.mark_anew.Given as goal

abbrev pub invariant-loop-place : goal.invariant-loop-place
invariant-loop-place l = record {
  whole : length l.marks.items ≡ 65536;
  marked : (at : ℕ) → is_marked l.marks.items at ≡ true → Has l.states at nothing_known nothing_beside (Some []);
}
