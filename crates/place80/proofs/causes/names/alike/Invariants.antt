use Rattle.std.proofs.Common.{◌≡◌, drop}
use Rattle.std.specs.Prelude.{find}
use Rattle.place80.specs.Uses.{differs_in_case, alike}
use Rattle.place80.proofs.causes.names.alike.Given as goal

-- the first of the publics that are left is the first of all
abbrev pub invariant-loop-public : goal.invariant-loop-public
invariant-loop-public l = find (λ p. differs_in_case p.name l.name) (drop l.public-index l.program.publics) ≡ alike l.program l.name
