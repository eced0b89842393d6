-- the same bytes so far
use Rattle.std.proofs.Common.{◌≡◌, ◌≤◌, length}
use Rattle.std.specs.Prelude.{filter, slice_index, ◌==◌}
use Rattle.std.specs.List.{range_with_len}
use Rattle.rom80.proofs.comparing.count_same.Given as goal

abbrev pub invariant-loop-at : goal.invariant-loop-at
invariant-loop-at l = record {
  bound : l.same ≤ l.at;
  count : l.same ≡ length (filter (λ k. slice_index l.bytes k == slice_index l.dump k) (range_with_len 0 l.at));
}
