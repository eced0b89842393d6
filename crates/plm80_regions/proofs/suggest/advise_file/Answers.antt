use Rattle.std.proofs.Common.{[], ◌∷◌}
use Rattle.plm80_console.specs.AnswerLaws.{err_from}
use Rattle.plm80_boards.specs.BoardLaws.{gives_on_board, gives_up_board}
use Rattle.plm80_regions.specs.Suggest.{AnswersAdvice}
use Rattle.plm80_regions.proofs.suggest.advise_file.Goals as goal

pub returns : goal.returns
returns g c =
    let asked = c.args.arguments.now in
    let both = gives_on_board asked.board (AnswersAdvice asked) (asked.image.now ∷ []) (g.C.Console.journal c.args.console.now)
    (g.C.Console.journal c.read.new.console) (g.C.Console.journal c.advise_on_board.new.console) c.in_ok-given.given.board
    c.in_ok-given.ensures.read c.advise_on_board.result c.advise_on_board.ensures.done c.advise_on_board.ensures.fault in
    record { done = both.0; fault = both.1 }

pub returns-in_err-given-clause-fault : goal.returns-in_err-given-clause-fault
returns-in_err-given-clause-fault g c =
    let asked = c.args.arguments.now in
    err_from c.from_residual.result
    (gives_up_board asked.board (AnswersAdvice asked) (asked.image.now ∷ []) (g.C.Console.journal c.args.console.now) (g.C.Console.journal c.read.new.console)
    c.in_err-given.ensures.fault)
