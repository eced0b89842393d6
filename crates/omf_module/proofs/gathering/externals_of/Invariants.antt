-- what was taken
use Rattle.std.proofs.Common.{◌≡◌, take}
use Rattle.std.specs.List.{flat_map}
use Rattle.omf_module.specs.Gathered.{externals_in}
use Rattle.omf_module.proofs.gathering.externals_of.Given as goal

abbrev pub invariant-loop-placed : goal.invariant-loop-placed
invariant-loop-placed l = l.externals.items ≡ flat_map (λ p. externals_in p.body) (take l.placed-index l.bodies)
