use Rattle.std.proofs.Common.{◌≡◌, ◌||◌, ◌&&◌, ℕ, false, nat_le, nat_lt, get_or, length}
use Rattle.machine80_board.proofs.indexed_lines.mark.Given as goal

-- the addresses before this one are marked
abbrev pub invariant-loop-address : goal.invariant-loop-address
invariant-loop-address l = record {
  whole : length l.marks.items ≡ 65536;
  marked : (k : ℕ) → get_or l.marks.items k false ≡ (get_or l.initial.marks.items k false || (nat_le l.fn.range.first k && nat_lt k l.address));
}
