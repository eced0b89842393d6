use Rattle.std.proofs.Common.{◌≡◌, ◌++◌, [], drop}
use Rattle.std.specs.List.{flat_map}
use Rattle.link80.specs.Gathered.{names_of_publics, again_in}
use Rattle.link80.proofs.declared.declared_names.Given as goal

-- the names so far and those of the modules that are left
abbrev pub invariant-loop-number : goal.invariant-loop-number
invariant-loop-number l =
    (l.names ++ flat_map names_of_publics (drop l.number l.modules) ≡ flat_map names_of_publics l.modules)
    × (again_in [] (flat_map names_of_publics l.modules) ≡ again_in l.names (flat_map names_of_publics (drop l.number l.modules)))
