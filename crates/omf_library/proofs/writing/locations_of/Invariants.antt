-- what is made, and that what is left is few
use Rattle.std.proofs.Common.{◌≡◌, ◌≤◌, ◌/◌, ℕ, drop, take}
use Rattle.std.specs.List.{flat_map, AllByRecursion}
use Rattle.omf_library.specs.Writing.{location_bytes}
use Rattle.omf_library.proofs.writing.locations_of.Given as goal

abbrev pub invariant-loop-place : goal.invariant-loop-place
invariant-loop-place l = record {
  made : l.body.items ≡ flat_map location_bytes (take l.place-index l.places);
  few : AllByRecursion (λ (place : ℕ). place / 128 ≤ 65535) (drop l.place-index l.places);
}
