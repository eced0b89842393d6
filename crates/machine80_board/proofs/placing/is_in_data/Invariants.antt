use Rattle.std.proofs.Common.{◌≡◌, ◌+◌, ◌<◌, ℕ, true}
use Rattle.image80.specs.Regions.{in_data}
use Rattle.machine80_board.proofs.placing.is_in_data.Given as goal

abbrev pub invariant-loop-offset : goal.invariant-loop-offset
invariant-loop-offset l = (offset : ℕ) → offset < l.offset → in_data l.regions (l.range.first + offset) ≡ true
