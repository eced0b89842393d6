use Rattle.plm80_programs.proofs.Names.{program_paths, AnswersFollowing}
use Rattle.plm80_console.specs.AnswerLaws.{err_from}
use Rattle.plm80_boards.specs.BoardLaws.{gives_on_board, gives_up_board}
use Rattle.plm80_programs.proofs.follow.follow_files.Goals as goal

pub returns : goal.returns
returns g c =
    let asked = c.args.arguments.now in
    let both = gives_on_board asked.board (AnswersFollowing asked) (program_paths asked.files)
    (g.C.Console.journal c.args.console.now) (g.C.Console.journal c.read.new.console) (g.C.Console.journal c.follow_on_board.new.console)
    c.in_ok-board.board.board c.in_ok-board.ensures.read c.follow_on_board.result c.follow_on_board.ensures.done c.follow_on_board.ensures.fault in
    record { done = both.0; fault = both.1 }

pub returns-in_err-board-clause-fault : goal.returns-in_err-board-clause-fault
returns-in_err-board-clause-fault g c =
    let asked = c.args.arguments.now in
    err_from c.from_residual.result
    (gives_up_board asked.board (AnswersFollowing asked) (program_paths asked.files) (g.C.Console.journal c.args.console.now) (g.C.Console.journal c.read.new.console)
    c.in_err-board.ensures.fault)
