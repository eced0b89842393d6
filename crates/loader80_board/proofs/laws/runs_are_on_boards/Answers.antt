use Rattle.loader80_board.proofs.OnBoardLemmas.{runs_on_boards}
use Rattle.loader80_board.proofs.laws.runs_are_on_boards.Goals as goal

pub returns : goal.returns
returns c = runs_on_boards c.runs_are_on_quiet_boards.ensures.runs c.promise_is_kept_on_boards.ensures.promise
