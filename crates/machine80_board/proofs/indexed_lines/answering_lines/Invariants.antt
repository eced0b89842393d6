use Rattle.std.proofs.Common.{drop}
use Rattle.machine80_board.specs.Index.{IsAnswering}
use Rattle.machine80_board.proofs.indexed_lines.answering_lines.Given as goal

-- the lines from this one on are in the table
abbrev pub invariant-loop-index : goal.invariant-loop-index
invariant-loop-index l = IsAnswering l.lines (drop l.index l.lines) l.table.items
