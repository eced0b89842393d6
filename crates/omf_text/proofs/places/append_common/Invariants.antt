use Rattle.std.proofs.Common.{◌≡◌, drop}
use Rattle.std.specs.Prelude.{find, ◌==◌}
use Rattle.omf_text.proofs.places.append_common.Given as goal

-- no name is appended yet, and what is found among the commons that are left is found among all
abbrev pub invariant-loop-common : goal.invariant-loop-common
invariant-loop-common l = record {
  text : l.text.items ≡ l.initial.text.items;
  found : find (λ c. c.id == l.id) (drop l.common-index l.commons) ≡ find (λ c. c.id == l.id) l.commons;
}
