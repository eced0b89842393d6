use Rattle.std.proofs.Common.{take}
use Rattle.machine80_board.specs.Index.{AreMarked}
use Rattle.machine80_board.proofs.indexed_lines.device_marks.Given as goal

-- the devices of the lines before this one are marked
abbrev pub invariant-loop-line : goal.invariant-loop-line
invariant-loop-line l = AreMarked (take l.line-index l.lines) l.marks.items
