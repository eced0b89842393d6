-- what is written
use Rattle.std.proofs.Common.{◌≡◌, ◌++◌, take}
use Rattle.std.specs.List.{flat_map}
use Rattle.omf_core.specs.Name.{name_spelling}
use Rattle.omf_library.proofs.writing.push_public_names.Given as goal

abbrev pub invariant-loop-public : goal.invariant-loop-public
invariant-loop-public l =
    l.out.items ≡ l.initial.out.items ++ flat_map (λ p. name_spelling p.name) (take l.public-index l.public-items)
