use Rattle.std.specs.Prelude.{◌≡◌, ◌++◌, take}
use Rattle.std.specs.List.{flat_map}
use Rattle.verify80_follow.specs.FollowText.{handler_line}
use Rattle.verify80_follow.proofs.lines.append_handlers.Given as goal

abbrev pub invariant-loop-handler : goal.invariant-loop-handler
invariant-loop-handler l = l.text.items ≡ l.initial.text.items ++ flat_map handler_line (take l.handler-index l.handlers)
