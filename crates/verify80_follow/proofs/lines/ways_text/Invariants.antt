use Rattle.std.specs.Prelude.{◌≡◌, ◌++◌, take}
use Rattle.std.specs.List.{flat_map}
use Rattle.verify80_follow.specs.FollowText.{way_line}
use Rattle.verify80_follow.proofs.lines.ways_text.Given as goal

abbrev pub invariant-loop-handler : goal.invariant-loop-handler
invariant-loop-handler l = l.text.items ≡ flat_map way_line l.ways ++ flat_map (λ handler. flat_map way_line handler.table.ways.items) (take l.handler-index l.handlers)
