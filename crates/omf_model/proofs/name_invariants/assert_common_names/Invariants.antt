-- what was looked at passes, so all passes as what is left
use Rattle.std.proofs.Common.{◌≡◌, drop}
use Rattle.std.specs.List.{list_all}
use Rattle.omf_core.specs.Name.{is_name}
use Rattle.omf_model.proofs.name_invariants.assert_common_names.Given as goal

abbrev pub invariant-loop-common : goal.invariant-loop-common
invariant-loop-common l = list_all (λ c. is_name c.name) (drop l.common-index l.commons) ≡ list_all (λ c. is_name c.name) l.commons
