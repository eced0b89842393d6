use Rattle.std.proofs.Common.{◌≡◌, ◌≤◌, ◌<◌, ℕ, false}
use Rattle.board80.specs.Reading.{is_marked}
use Rattle.board80.proofs.slots.are_free.Given as goal

-- no slot before this one is marked
abbrev pub invariant-loop-slot : goal.invariant-loop-slot
invariant-loop-slot l = (k : ℕ) → l.fn.slots.first ≤ k → k < l.slot → is_marked l.marks k ≡ false
