-- what is left, after what was seen, passes as all does
use Rattle.std.proofs.Common.{◌≡◌, [], take, drop}
use Rattle.omf_model.specs.Rules.{each_after, is_new_common}
use Rattle.omf_model.proofs.duplicates.are_commons.Given as goal

abbrev pub invariant-loop-place : goal.invariant-loop-place
invariant-loop-place l = each_after is_new_common (take l.place l.commons) (drop l.place l.commons) ≡ each_after is_new_common [] l.commons
