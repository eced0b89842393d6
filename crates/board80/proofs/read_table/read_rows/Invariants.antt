use Rattle.std.proofs.Common.{◌≡◌, ◌++◌, length}
use Rattle.std.specs.Prelude.{All}
use Rattle.board80.specs.Board.{IsRow}
use Rattle.board80.specs.BoardText.{rows_text}
use Rattle.board80.proofs.read_table.read_rows.Given as goal

-- the rows so far, and the text that is left
abbrev pub invariant-loop-row : goal.invariant-loop-row
invariant-loop-row l = record {
  spelled : l.fn.text ≡ rows_text l.rows.items ++ l.rest;
  proper : All IsRow l.rows.items;
}

abbrev pub decreases-loop-row : goal.decreases-loop-row
decreases-loop-row l = length l.rest
