use Rattle.std.proofs.Common.{take}
use Rattle.machine80_board.specs.BoardRun.{DevicesAreData}
use Rattle.machine80_board.proofs.placing.misplaced_device.Given as goal

abbrev pub invariant-loop-index : goal.invariant-loop-index
invariant-loop-index l = DevicesAreData (take l.index l.lines) l.regions
