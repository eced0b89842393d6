use Rattle.plm80_console.specs.AnswerLaws.{err_from, gives_more, gives_up_more, wrong_arguments}
use Rattle.plm80_console.specs.Journal.{and_blamed}
use Rattle.plm80_runs.proofs.ReadLemmas.{same_limits, same_span}
use Rattle.plm80_runs.proofs.Names.{◌∙◌, ap, subst, Limits, Span}
use Rattle.plm80_runs.specs.OnBoards.{AnswersRunOnBoard, TracesBoardFiles, TracesBoardFilesInPart, TracesOnBoard, TracesOnBoardInPart, board_program_paths}
use Rattle.plm80_runs.proofs.board_trace.trace_among_devices.Goals as goal

pub returns : goal.returns
returns g c =
    let asked = c.args.arguments in
    let limits = c.in_ok-limits.limits in
    let span = c.in_ok-span.span in
    let old = g.C.Console.journal c.args.console.now in
    let between = g.C.Console.journal c.numbers-2.new.console in
    let new = g.C.Console.journal c.print_on_board-given.new.console in
    let same = c.in_ok-span.ensures.unchanged ∙ c.in_ok-limits.ensures.unchanged in
    record {
      done = gives_more (AnswersRunOnBoard (TracesOnBoard limits span) asked.files) (TracesBoardFiles asked) (board_program_paths asked.files)
          old between new
          (λ files answer answers.
          record { limits = limits; are_limits = c.in_ok-limits.ensures.limits; span = span; is_span = c.in_ok-span.ensures.span; answers = answers })
          same c.print_on_board-given.result c.print_on_board-given.ensures.done;
      fault = gives_up_more (AnswersRunOnBoard (TracesOnBoardInPart limits span) asked.files) (TracesBoardFilesInPart asked)
          (board_program_paths asked.files) old between new
          (λ files answer answers.
          record { limits = limits; are_limits = c.in_ok-limits.ensures.limits; span = span; is_span = c.in_ok-span.ensures.span; answers = answers })
          same
          (λ files answer traces.
          subst (λ (l : Limits). AnswersRunOnBoard (TracesOnBoardInPart l span) asked.files files answer)
          (same_limits asked.limits traces.limits limits traces.are_limits c.in_ok-limits.ensures.limits)
          (subst (λ (s : Span). AnswersRunOnBoard (TracesOnBoardInPart traces.limits s) asked.files files answer)
          (same_span asked.span traces.span span traces.is_span c.in_ok-span.ensures.span) traces.answers))
          c.print_on_board-given.result c.print_on_board-given.ensures.fault;
    }

pub returns-in_err-limits-clause-fault : goal.returns-in_err-limits-clause-fault
returns-in_err-limits-clause-fault g c =
    err_from c.from_residual.result
    (wrong_arguments (TracesBoardFilesInPart c.args.arguments) (λ files answer traces. c.in_err-limits.ensures.wrong traces.limits traces.are_limits)
    c.in_err-limits.ensures.failed)

pub returns-in_err-span-clause-fault : goal.returns-in_err-span-clause-fault
returns-in_err-span-clause-fault g c =
    err_from c.from_residual-in_err-span.result
    (wrong_arguments (TracesBoardFilesInPart c.args.arguments) (λ files answer traces. c.in_err-span.ensures.wrong traces.span traces.is_span)
    (c.in_err-span.ensures.failed ∙ ap and_blamed c.in_ok-limits.ensures.unchanged))
