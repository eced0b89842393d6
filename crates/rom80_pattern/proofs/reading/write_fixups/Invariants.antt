-- by the last fixups so far
use Rattle.std.proofs.Common.{◌≡◌, ℕ, ◌-◌, ◌<◌, length, slice_index_or, None, Some, Option, drop}
use Rattle.std.specs.Prelude.{if◌then◌else◌}
use Rattle.rom80_pattern.specs.declared.code_byte.CodeByte.{CodeByte}
use Rattle.rom80_pattern.specs.Modules.{covers, byte_by_fixups, plain_byte}
use Rattle.rom80_pattern.proofs.reading.write_fixups.Given as goal

abbrev pub invariant-loop-done : goal.invariant-loop-done
invariant-loop-done l = record {
  whole : length l.table ≡ length l.fn.table;
  each : (first : Option CodeByte) (o : ℕ) → o < length l.fn.table →
      slice_index_or l.fn.table o None ≡ (if covers o l.content then Some (plain_byte l.content (o - l.content.offset)) else first) →
      slice_index_or l.table o None ≡
      (if covers o l.content then Some (byte_by_fixups l.source l.content (o - l.content.offset) (drop (length l.fixups - l.done) l.fixups)) else first);
}
