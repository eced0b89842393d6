use Rattle.std.proofs.Common.{◌≡◌, ℕ, length}
use Rattle.std.specs.Prelude.{◌&&◌, nat_le, nat_lt, slice_index, if◌then◌else◌}
use Rattle.image80_source.proofs.covered.mark_span.Given as goal

-- the addresses so far are marked
abbrev pub invariant-loop-address : goal.invariant-loop-address
invariant-loop-address l = record {
  whole : length l.marks.items ≡ 65536;
  marks : (place : ℕ) → slice_index l.marks.items place ≡ (if nat_le l.fn.first place && nat_lt place l.address then 1 else slice_index l.fn.marks.items place);
}
