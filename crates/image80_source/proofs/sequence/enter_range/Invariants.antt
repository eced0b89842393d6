use Rattle.std.proofs.Common.{◌≡◌, ◌-◌, ◌≤◌, ℕ, length}
use Rattle.std.specs.Prelude.{false, None, slice_index_or}
use Rattle.image80.specs.Range.{in_range}
use Rattle.image80_source.proofs.sequence.enter_range.Given as goal

abbrev pub invariant-loop-at : goal.invariant-loop-at
invariant-loop-at l = record {
  whole : length l.table.items ≡ 65536;
  above : l.fn.range.first ≤ l.at;
  others : (place : ℕ) → in_range l.fn.range place ≡ false → slice_index_or l.table.items place None ≡ slice_index_or l.fn.table.items place None;
}

abbrev pub decreases-loop-at : goal.decreases-loop-at
decreases-loop-at l = l.limit - l.at
