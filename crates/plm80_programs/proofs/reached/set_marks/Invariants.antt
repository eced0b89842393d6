-- the addresses so far
use Rattle.std.proofs.Common.{◌≡◌, ℕ, false, length, take}
use Rattle.std.specs.Prelude.{slice_index_or}
use Rattle.std.specs.List.{list_any}
use Rattle.plm80_programs.specs.Reached.{is_place}
use Rattle.plm80_programs.proofs.reached.set_marks.Given as goal

abbrev pub invariant-loop-place : goal.invariant-loop-place
invariant-loop-place l = record {
  whole : length l.marks.items ≡ 65536;
  each : (at : ℕ) → slice_index_or l.marks.items at false ≡ list_any (is_place at) (take l.place-index l.places);
}
