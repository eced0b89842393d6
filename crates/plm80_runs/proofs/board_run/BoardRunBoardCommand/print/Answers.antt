use Rattle.plm80_runs.proofs.BoardLemmas.{ran_answered, ran_given_up}
use Rattle.plm80_runs.specs.OnBoards.{PrintsRun}
use Rattle.plm80_runs.proofs.board_run.BoardRunBoardCommand.print.Goals as goal

pub returns : goal.returns
returns g c =
    let Answers = PrintsRun c.args.self.output c.args.self.limits c.args.board.now c.args.names.now c.args.program.now in
    let old = g.C.Console.journal c.args.console.now in
    let new = g.C.Console.journal c.print_ran.new.console in
    record {
      done = ran_answered Answers old new c.run-ran.result c.print_ran.result c.run-ran.ensures c.print_ran.ensures.done;
      fault = ran_given_up Answers old new c.run-ran.result c.print_ran.result c.run-ran.ensures c.print_ran.ensures.fault;
    }
