use Rattle.std.proofs.Common.{◌≡◌, ℕ, length}
use Rattle.std.specs.Prelude.{false, None, slice_index_or}
use Rattle.image80.specs.Regions.{in_code}
use Rattle.image80_source.proofs.sequence.code_in_sequence.Given as goal

abbrev pub invariant-loop-range : goal.invariant-loop-range
invariant-loop-range l = record {
  whole : length l.table.items ≡ 65536;
  outside : (at : ℕ) → in_code l.image.regions at ≡ false → slice_index_or l.table.items at None ≡ None;
}
