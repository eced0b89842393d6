use Rattle.plm80_runs.proofs.BoardLemmas.{device_blamed, gives_up_with_board, is_of_image, no_answer, refused_answers, runnable_answers}
use Rattle.plm80_runs.proofs.Names.{Located, subst, sym}
use Rattle.machine80_board.specs.BoardRun.{DevicesAreData, IsMisplaced}
use Rattle.plm80_console.specs.AnswerLaws.{err_from}
use Rattle.plm80_runs.specs.OnBoards.{IsJudged}
use Rattle.plm80_runs.proofs.on_board.print_on_board.Goals as goal

pub returns-in-Some-clause-fault : goal.returns-in-Some-clause-fault
returns-in-Some-clause-fault g c =
    let given = c.in_ok-board.field-0 in
    device_blamed c.in_ok-board.ensures.read (g.C.Console.journal c.blame_device.new.console)
    (g.B.BoardCommand.answers c.args.command) (g.B.BoardCommand.begins c.args.command)
    c.text_of_regions_is_read_as_itself.ensures.one_reading c.in-Some.number
    (subst (λ (image : Located). IsMisplaced given.board image.regions c.in-Some.number) c.image.view_is c.in-Some.ensures.found)
    c.blame_device.ensures

pub print-requires : goal.print-requires
print-requires g c =
    let given = c.in_ok-board.field-0 in
    let is = subst (IsJudged given.image given.names) c.in-Ok-Runs.field-0-is c.in-Ok-Runs.ensures in
    subst (λ (image : Located). DevicesAreData given.board image.regions) (sym (is_of_image c.in-Ok-Runs.program is))
    (subst (λ (image : Located). DevicesAreData given.board image.regions) c.image.view_is c.in_default.ensures.none)

pub returns-in-Ok-Runs : goal.returns-in-Ok-Runs
returns-in-Ok-Runs g c =
    let given = c.in_ok-board.field-0 in
    let is = subst (IsJudged given.image given.names) c.in-Ok-Runs.field-0-is c.in-Ok-Runs.ensures in
    let both = runnable_answers c.in_ok-board.ensures.read (g.C.Console.journal c.print.new.console)
    (g.B.BoardCommand.answers c.args.command) (g.B.BoardCommand.begins c.args.command)
    (subst (λ (image : Located). DevicesAreData given.board image.regions) c.image.view_is c.in_default.ensures.none) c.in-Ok-Runs.program is
    c.print.result c.print.ensures.done c.print.ensures.fault in
    record { done = both.0; fault = both.1 }

pub returns-in-Ok-Refused : goal.returns-in-Ok-Refused
returns-in-Ok-Refused g c =
    let given = c.in_ok-board.field-0 in
    let is = subst (IsJudged given.image given.names) c.in-Ok-Refused.field-0-is c.in-Ok-Refused.ensures in
    let both = refused_answers c.in_ok-board.ensures.read (g.C.Console.journal c.give.new.self)
    (g.B.BoardCommand.answers c.args.command) (g.B.BoardCommand.begins c.args.command)
    (subst (λ (image : Located). DevicesAreData given.board image.regions) c.image.view_is c.in_default.ensures.none) c.in-Ok-Refused.line.items
    c.prints.result c.give.result is c.prints.ensures c.give.ensures.given c.give.ensures.fault in
    record { done = both.0; fault = both.1 }

pub returns-in-Err-clause-fault : goal.returns-in-Err-clause-fault
returns-in-Err-clause-fault g c =
    no_answer c.in_ok-board.ensures.read (g.C.Console.journal c.report_memory.new.self)
    (g.B.BoardCommand.answers c.args.command) (g.B.BoardCommand.begins c.args.command) c.report_memory.ensures

pub returns-in_err-board-clause-fault : goal.returns-in_err-board-clause-fault
returns-in_err-board-clause-fault g c =
    err_from c.from_residual.result
    (gives_up_with_board (g.B.BoardCommand.begins c.args.command) c.args.files c.in_err-board.ensures.fault)
