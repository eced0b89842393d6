use Rattle.std.specs.Prelude.{◌≡◌, ◌++◌, take}
use Rattle.std.specs.List.{flat_map}
use Rattle.verify80_follow.specs.FollowText.{way_line}
use Rattle.verify80_follow.proofs.lines.append_ways.Given as goal

abbrev pub invariant-loop-way : goal.invariant-loop-way
invariant-loop-way l = l.text.items ≡ l.initial.text.items ++ flat_map way_line (take l.way-index l.ways)
