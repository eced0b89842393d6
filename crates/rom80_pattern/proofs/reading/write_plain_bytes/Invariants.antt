-- the bytes so far
use Rattle.std.proofs.Common.{◌≡◌, ℕ, ◌-◌, ◌<◌, length, slice_index_or, None, Some}
use Rattle.std.specs.Prelude.{nat_le, nat_lt, ◌&&◌, if◌then◌else◌}
use Rattle.rom80_pattern.specs.Modules.{plain_byte}
use Rattle.rom80_pattern.proofs.reading.write_plain_bytes.Given as goal

abbrev pub invariant-loop-index : goal.invariant-loop-index
invariant-loop-index l = record {
  whole : length l.table ≡ length l.fn.table;
  each : (o : ℕ) → o < length l.fn.table → slice_index_or l.table o None ≡
      (if nat_le l.content.offset o && nat_lt (o - l.content.offset) l.index then Some (plain_byte l.content (o - l.content.offset)) else slice_index_or l.fn.table o None);
}
