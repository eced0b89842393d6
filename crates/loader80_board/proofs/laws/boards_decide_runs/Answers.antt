use Rattle.loader80_board.proofs.DecideLemmas.{boards_decide}
use Rattle.loader80_board.proofs.laws.boards_decide_runs.Goals as goal

pub returns : goal.returns
returns c = boards_decide
