use Rattle.std.proofs.Common.{length, ◌-◌, ◌≡◌, drop}
use Rattle.machine80.specs.Ports.{bytes_of}
use Rattle.machine80.proofs.list_ports.first_of.Given as goal

-- none of the bytes passed over is the port's
abbrev pub invariant-loop-at : goal.invariant-loop-at
invariant-loop-at l = bytes_of l.port (drop l.from l.pairs) ≡ bytes_of l.port (drop l.at l.pairs)

abbrev pub decreases-loop-at : goal.decreases-loop-at
decreases-loop-at l = length l.pairs - l.at
