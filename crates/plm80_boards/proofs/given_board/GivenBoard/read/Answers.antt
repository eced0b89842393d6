use Rattle.plm80_boards.proofs.ReadLemmas.{given_and_read, not_given, read_and_blamed}
use Rattle.plm80_console.specs.AnswerLaws.{err_from}
use Rattle.plm80_boards.proofs.given_board.GivenBoard.read.Goals as goal

pub returns-in-None-clause-read : goal.returns-in-None-clause-read
returns-in-None-clause-read g c = not_given c.args.path (g.C.Console.journal c.args.console.now) c.in-None.is

pub returns-in_ok-board-in-Some-clause-read : goal.returns-in_ok-board-in-Some-clause-read
returns-in_ok-board-in-Some-clause-read g c =
    given_and_read c.args.path c.in-Some.path c.in_ok-text-in-Some.text.items c.deref.result.now c.in_ok-board-in-Some.board
    (g.C.Console.journal c.args.console.now) (g.C.Console.journal c.read.new.self) (g.C.Console.journal c.board_of.new.console) c.in-Some.is
    c.deref.ensures.value c.in_ok-board-in-Some.ensures.board c.in_ok-board-in-Some.ensures.alone c.in_ok-text-in-Some.ensures.read c.in_ok-board-in-Some.ensures.unchanged

pub returns-in_err-board-in-Some-clause-fault : goal.returns-in_err-board-in-Some-clause-fault
returns-in_err-board-in-Some-clause-fault g c =
    err_from c.from_residual-in_err-board-in-Some.result
    (read_and_blamed c.args.path c.in-Some.path c.in_ok-text-in-Some.text.items c.deref.result.now (g.C.Console.journal c.args.console.now)
    (g.C.Console.journal c.read.new.self) (g.C.Console.journal c.board_of.new.console) c.in-Some.is c.deref.ensures.value
    c.in_ok-text-in-Some.ensures.read c.in_err-board-in-Some.ensures.fault)
