-- the places so far
use Rattle.std.proofs.Common.{◌≡◌, ℕ, length}
use Rattle.std.specs.Prelude.{slice_index_or}
use Rattle.rom80_pattern.proofs.table.table.Given as goal

abbrev pub invariant-loop : goal.invariant-loop
invariant-loop g l = record {
  whole : length l.made.items ≡ l.counter;
  each : (k : ℕ) → slice_index_or l.made.items k l.value ≡ l.value;
}
