-- the rest of the contents on the table so far
use Rattle.std.proofs.Common.{◌≡◌, ℕ, ◌<◌, length, slice_index_or, None, drop}
use Rattle.std.specs.Prelude.{map, filter}
use Rattle.std.specs.List.{last_or, AllByRecursion}
use Rattle.omf_model.specs.SoundModules.{LiesIn, HasItsFixups}
use Rattle.rom80_pattern.specs.Modules.{code_length, code_byte_at, covers_code, byte_in}
use Rattle.rom80_pattern.proofs.reading.code_table.Given as goal

abbrev pub invariant-loop-content : goal.invariant-loop-content
invariant-loop-content l = record {
  whole : length l.table.items ≡ code_length l.source;
  each : (o : ℕ) → o < code_length l.source → last_or (slice_index_or l.table.items o None) (map (byte_in l.source o) (filter (covers_code o) (drop l.content-index l.source.contents))) ≡ code_byte_at l.source o;
  lie : AllByRecursion (LiesIn l.source) (drop l.content-index l.source.contents);
  fixups : AllByRecursion (HasItsFixups l.source) (drop l.content-index l.source.contents);
}
