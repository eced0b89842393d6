use Rattle.std.proofs.Common.{◌≡◌, drop}
use Rattle.std.specs.Prelude.{◌==◌, find}
use Rattle.board80.specs.Answers.{answer_of_row, answer_to}
use Rattle.board80.proofs.table.Table.answer_to.Given as goal

-- the answer is among the rows that are left
abbrev pub invariant-loop-row : goal.invariant-loop-row
invariant-loop-row l = answer_of_row (find (λ row. row.byte == l.byte) (drop l.row-index l.self.rows)) l.self.other ≡ answer_to l.self l.byte
