-- what was looked at passes, so all passes as what is left
use Rattle.std.proofs.Common.{◌≡◌, drop}
use Rattle.std.specs.List.{list_all}
use Rattle.omf_core.specs.Name.{is_name}
use Rattle.omf_model.proofs.name_invariants.assert_public_names.Given as goal

abbrev pub invariant-loop-public : goal.invariant-loop-public
invariant-loop-public l = list_all (λ p. is_name p.name) (drop l.public-index l.publics) ≡ list_all (λ p. is_name p.name) l.publics
