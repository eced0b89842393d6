use Rattle.std.proofs.Common.{◌≡◌, ◌++◌, map, drop}
use Rattle.place80_text.proofs.public_lines.references_to.Given as goal

abbrev pub invariant-loop-public : goal.invariant-loop-public
invariant-loop-public l = map (λ p. p.now) l.listed.items ++ drop l.public-index l.publics ≡ l.publics
