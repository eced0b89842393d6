-- the table is that of the modules from a place on
use Rattle.std.proofs.Common.{◌≤◌, drop, length}
use Rattle.std.specs.Prelude.{map}
use Rattle.omf_library.specs.Providers.{AreProvidersFrom}
use Rattle.omf_library.proofs.providers.Providers.of.Given as goal

abbrev pub invariant-loop-place : goal.invariant-loop-place
invariant-loop-place l = AreProvidersFrom l.place (drop l.place (map (λ m. m.now) l.modules)) l.providers
    × (l.place ≤ length l.modules)

abbrev pub decreases-loop-place : goal.decreases-loop-place
decreases-loop-place l = l.place
