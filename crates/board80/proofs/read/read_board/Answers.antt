use Rattle.board80.proofs.BoardLemmas.{good_text, known_version}
use Rattle.board80.proofs.read.read_board.Goals as goal

pub from_lines-requires : goal.from_lines-requires
from_lines-requires c = (c.in_ok-board.ensures.good c.args.bytes.now c.in_ok-lines.ensures.after).rules

pub returns-clause-spelled : goal.returns-clause-spelled
returns-clause-spelled c = rw c.from_lines.ensures (good_text c.args.bytes.now c.in_ok-board.board.items (c.in_ok-board.ensures.good c.args.bytes.now c.in_ok-lines.ensures.after))

pub returns-in_err-board-clause-version : goal.returns-in_err-board-clause-version
returns-in_err-board-clause-version c = known_version c.from_residual-in_err-board.result c.args.bytes.now _ c.in_ok-lines.ensures.after
