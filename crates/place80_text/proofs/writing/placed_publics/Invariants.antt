use Rattle.std.proofs.Common.{◌≡◌, map, take}
use Rattle.place80_text.specs.ImagePublics.{absolute_public}
use Rattle.place80_text.proofs.writing.placed_publics.Given as goal

abbrev pub invariant-loop-public : goal.invariant-loop-public
invariant-loop-public l = l.placed.items ≡ map (absolute_public l.segments) (take l.public-index l.publics)
