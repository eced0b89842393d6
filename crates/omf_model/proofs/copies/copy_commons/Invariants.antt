use Rattle.std.proofs.Common.{◌≡◌, take}
use Rattle.omf_model.proofs.copies.copy_commons.Given as goal

abbrev pub invariant-loop-common : goal.invariant-loop-common
invariant-loop-common l = l.copies.items ≡ take l.common-index l.commons
