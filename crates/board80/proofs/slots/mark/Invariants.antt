use Rattle.std.proofs.Common.{◌≡◌, ◌||◌, ◌&&◌, ℕ, nat_le, nat_lt}
use Rattle.board80.specs.Reading.{is_marked}
use Rattle.board80.proofs.slots.mark.Given as goal

-- the slots before this one are marked
abbrev pub invariant-loop-slot : goal.invariant-loop-slot
invariant-loop-slot l = (k : ℕ) → is_marked l.marks k ≡ (is_marked l.initial.marks k || (nat_le l.fn.slots.first k && nat_lt k l.slot))
