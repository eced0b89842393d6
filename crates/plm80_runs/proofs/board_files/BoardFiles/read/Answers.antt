use Rattle.std.specs.Prelude.{Option, Some, List}
use Rattle.board80.specs.declared.line.Line.{Line}
use Rattle.plm80_boards.specs.BoardLaws.{blames_on_board}
use Rattle.plm80_console.specs.Answer.{AnswerValue}
use Rattle.plm80_console.specs.AnswerLaws.{err_from}
use Rattle.plm80_console.specs.Journal.{FileValue}
use Rattle.plm80_names.specs.{Arguments.program_paths, Verdict.HaveNoProgram}
use Rattle.plm80_runs.proofs.BoardLemmas.{board_before, program_behind}
use Rattle.plm80_runs.specs.OnBoards.{HaveNoBoardProgram}
use Rattle.plm80_runs.proofs.board_files.BoardFiles.read.Goals as goal

pub returns-in_err-board-clause-fault : goal.returns-in_err-board-clause-fault
returns-in_err-board-clause-fault g c =
    err_from c.from_residual.result (board_before c.args.self.board (program_paths c.args.self.program) c.in_err-board.ensures.fault)

pub returns-in_err-image-clause-fault : goal.returns-in_err-image-clause-fault
returns-in_err-image-clause-fault g c =
    let asked = c.args.self.program.names in
    let read = c.in_ok-board.ensures.read in
    err_from c.from_residual-in_err-image.result
    (blames_on_board (Some c.args.self.board) (λ (board : Option (List Line)) (files : List FileValue) (answer : AnswerValue). ⊥)
    (program_paths c.args.self.program) _ _ _ (Some c.in_ok-board.board) read (HaveNoProgram asked) (HaveNoBoardProgram asked)
    (program_behind asked c.args.self.board read.files (Some c.in_ok-board.board) read.is_board) c.in_err-image.ensures.fault)
