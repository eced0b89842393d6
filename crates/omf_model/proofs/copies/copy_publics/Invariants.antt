use Rattle.std.proofs.Common.{◌≡◌, take}
use Rattle.omf_model.proofs.copies.copy_publics.Given as goal

abbrev pub invariant-loop-public : goal.invariant-loop-public
invariant-loop-public l = l.copies.items ≡ take l.public-index l.publics
