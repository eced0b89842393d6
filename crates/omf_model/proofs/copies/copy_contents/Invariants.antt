use Rattle.std.proofs.Common.{◌≡◌, take}
use Rattle.omf_model.proofs.copies.copy_contents.Given as goal

abbrev pub invariant-loop-content : goal.invariant-loop-content
invariant-loop-content l = l.copies.items ≡ take l.content-index l.contents
