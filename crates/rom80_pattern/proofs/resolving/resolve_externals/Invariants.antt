-- the externals so far, and their names in the table
use Rattle.std.proofs.Common.{◌≡◌, ◌<◌, ℕ, length, take, Some}
use Rattle.std.specs.Prelude.{slice_get}
use Rattle.rom80_pattern.specs.Modules.{resolved_external}
use Rattle.rom80_pattern.specs.Names.{AreNames}
use Rattle.rom80_pattern.proofs.resolving.resolve_externals.Given as goal

abbrev pub invariant-loop-index : goal.invariant-loop-index
invariant-loop-index l = record {
  names : AreNames l.source.publics (take l.index l.source.externals) l.names;
  whole : length l.externals.items ≡ l.index;
  each : (index : ℕ) → index < l.index → slice_get l.externals.items index ≡ Some (resolved_external l.source index);
}
