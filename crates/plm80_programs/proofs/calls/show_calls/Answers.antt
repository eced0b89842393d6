use Rattle.plm80_programs.proofs.Names.{asks_names, program_paths, AnswersProgram, PrintsCalls}
use Rattle.plm80_console.specs.AnswerLaws.{err_from}
use Rattle.plm80_boards.specs.BoardLaws.{gives_on_board, gives_up_board}
use Rattle.plm80_programs.proofs.calls.show_calls.Goals as goal

pub returns : goal.returns
returns g c =
    let asked = c.args.arguments in
    let both = gives_on_board asked.board (λ _. AnswersProgram (PrintsCalls asked.dot) (asks_names asked.files)) (program_paths asked.files)
    (g.C.Console.journal c.args.console.now) (g.C.Console.journal c.read.new.console) (g.C.Console.journal c.show_on_board.new.console)
    c.in_ok-board.board.board c.in_ok-board.ensures.read c.show_on_board.result c.show_on_board.ensures.done c.show_on_board.ensures.fault in
    record { done = both.0; fault = both.1 }

pub returns-in_err-board-clause-fault : goal.returns-in_err-board-clause-fault
returns-in_err-board-clause-fault g c =
    let asked = c.args.arguments in
    err_from c.from_residual.result
    (gives_up_board asked.board (λ _. AnswersProgram (PrintsCalls asked.dot) (asks_names asked.files)) (program_paths asked.files) (g.C.Console.journal c.args.console.now) (g.C.Console.journal c.read.new.console)
    c.in_err-board.ensures.fault)
