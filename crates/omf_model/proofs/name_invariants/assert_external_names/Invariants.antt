-- what was looked at passes, so all passes as what is left
use Rattle.std.proofs.Common.{◌≡◌, drop}
use Rattle.std.specs.List.{list_all}
use Rattle.omf_core.specs.Name.{is_name}
use Rattle.omf_model.proofs.name_invariants.assert_external_names.Given as goal

abbrev pub invariant-loop-name : goal.invariant-loop-name
invariant-loop-name l = list_all is_name (drop l.name-index l.externals) ≡ list_all is_name l.externals
