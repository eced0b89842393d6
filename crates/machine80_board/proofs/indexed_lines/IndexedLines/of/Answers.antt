use Rattle.std.proofs.Common.{List, All, subst, sym}
use Rattle.board80.specs.declared.line.Line.{Line}
use Rattle.board80.specs.Board.{IsProper}
use Rattle.machine80_board.proofs.LineLemmas.{all_proper}
use Rattle.machine80_board.proofs.indexed_lines.IndexedLines.of.Goals as goal

pub device_marks-requires : goal.device_marks-requires
device_marks-requires c =
    subst (λ (lines : List Line). All IsProper lines) (sym c.lines-lines.ensures.lines) (all_proper c.args.board.now c.lines-lines.ensures.rules)
