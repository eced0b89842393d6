use Rattle.loader80_board.proofs.OnBoardLemmas.{runs_on_quiet_boards, starts_hold_bytes}
use Rattle.loader80_board.proofs.laws.runs_are_on_quiet_boards.Goals as goal

pub returns : goal.returns
returns c = record {
  runs = runs_on_quiet_boards c.code_data_and_stack_are_apart.ensures.code_or_data c.code_data_and_stack_are_apart.ensures.data_or_stack c.bytes_stay_bytes.ensures.bytes;
  start = starts_hold_bytes;
}
