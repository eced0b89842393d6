use Rattle.std.proofs.Common.{◌≡◌, drop}
use Rattle.omf_model.specs.Place.{common_name}
use Rattle.omf_model.proofs.rules.common_name.Given as goal

-- the name among the commons that are left is that among all
abbrev pub invariant-loop-common : goal.invariant-loop-common
invariant-loop-common l = common_name (drop l.common-index l.commons) l.id ≡ common_name l.commons l.id
