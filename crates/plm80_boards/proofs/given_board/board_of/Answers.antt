use Rattle.plm80_console.specs.AnswerLaws.{blames_so}
use Rattle.plm80_boards.proofs.given_board.board_of.Goals as goal

pub returns-in-Ok-clause-alone : goal.returns-in-Ok-clause-alone
returns-in-Ok-clause-alone g c = λ other spelled.
    c.text_of_board_is_read_as_itself.ensures.one_reading c.args.text.now other c.in-Ok.board spelled c.in-Ok.ensures.spelled

pub returns-in-Err-clause-fault : goal.returns-in-Err-clause-fault
returns-in-Err-clause-fault g c =
    blames_so
    (λ no_memory board spelled. no_memory
    (c.text_of_board_is_read_as_itself.ensures.not_refused c.args.text.now board c.in-Err.fault spelled c.in-Err.ensures.refused))
    c.report_board.ensures
